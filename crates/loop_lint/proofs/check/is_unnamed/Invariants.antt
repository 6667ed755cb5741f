use Rattle.script_syntax.specs.Seen.{item_of}
use Rattle.loop_lint.specs.LoopHandlers.{item_lines, names_handler}
use Rattle.loop_lint.proofs.Searching.{IsSearched}
use Rattle.loop_lint.proofs.check.is_unnamed.Given as goal

abbrev pub invariant-loop-item : goal.invariant-loop-item
invariant-loop-item l = IsSearched (λ item. item_lines (names_handler l.name) (item_of item)) l.items l.item-index
