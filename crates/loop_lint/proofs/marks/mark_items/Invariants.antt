use Rattle.script_syntax.specs.Seen.{item_of}
use Rattle.loop_lint.specs.Marks.{named_in_item}
use Rattle.loop_lint.proofs.Marking.{IsMarkedTo}
use Rattle.loop_lint.proofs.marks.mark_items.Given as goal

abbrev pub invariant-loop-item : goal.invariant-loop-item
invariant-loop-item l = IsMarkedTo l.script.items (λ item. named_in_item (item_of item)) l.items l.fn.marks l.item-index l.marks
