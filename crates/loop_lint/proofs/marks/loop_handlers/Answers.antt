use Rattle.loop_lint.proofs.Marking.{all_marked}
use Rattle.loop_lint.proofs.marks.loop_handlers.Goals as goal

pub returns-clause-marked : goal.returns-clause-marked
returns-clause-marked c = all_marked c.args.script.now.items 4096 c.mark_items.new.marks c.mark_items.ensures
