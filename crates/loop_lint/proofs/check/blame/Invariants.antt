use Rattle.script_syntax.specs.Seen.{item_of}
use Rattle.loop_lint.specs.Seen.{forbidden_by}
use Rattle.loop_lint.specs.Searches.{lines_at}
use Rattle.loop_lint.proofs.Searching.{IsSearched}
use Rattle.loop_lint.proofs.check.blame.Given as goal

abbrev pub invariant-loop-item : goal.invariant-loop-item
invariant-loop-item l = IsSearched (λ item. lines_at (forbidden_by l.law) l.script.items (item_of item)) l.items l.item-index
