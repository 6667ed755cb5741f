-- Only items change.
use Rattle.page_documents.proofs.Making.{item_framed}
use Rattle.page_documents.proofs.laws.styles_keep_frames.Goals as goal

pub returns-clause-declarations : goal.returns-clause-declarations
returns-clause-declarations c tree declaration n framed = item_framed tree _ n framed

pub returns-clause-natural_sizes : goal.returns-clause-natural_sizes
returns-clause-natural_sizes c tree width height n framed = item_framed tree _ n framed
