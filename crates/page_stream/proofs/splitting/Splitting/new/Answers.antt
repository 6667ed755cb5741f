use Rattle.page_stream.proofs.Held.{held_none}
use Rattle.page_stream.proofs.splitting.Splitting.new.Goals as goal

pub returns-clause-split : goal.returns-clause-split
returns-clause-split c = held_none c.new.ensures.items c.new-2.ensures.items c.new-3.ensures.items
