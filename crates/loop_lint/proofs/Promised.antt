-- A law that is kept promises something of each run.
use Rattle.std.proofs.Common.{◌≡◌, ap, ◌∙◌}
use Rattle.std.specs.Prelude.{ℕ, List, Option, IsNone, slice_get}
use Rattle.script_model.specs.Syntax.{Item}
use Rattle.loop_lint.specs.declared.kinds.Law.{Law}
use Rattle.loop_lint.specs.declared.kinds.Law.TheVariants as law
use Rattle.loop_lint.specs.LoopHandlers.{loop_handler_lines, is_empty}
use Rattle.loop_lint.specs.Seen.{forbidden_by}
use Rattle.loop_lint.specs.Verdicts.{moves, disturbs, is_steady, is_quiet}
use Rattle.loop_lint.specs.Promises.{Promises}
use Rattle.loop_lint.proofs.Holding.{lines-same}
use Rattle.loop_lint.proofs.Searching.{none-means}
use Rattle.loop_lint.proofs.Steady.{steady-loops}
use Rattle.loop_lint.proofs.Quiet.{quiet-lines, quiet-outcome}

pub promised : (kept : Law) (items : List Item) (blamed : Option ℕ) → blamed ≡ slice_get (loop_handler_lines (forbidden_by kept) items) 0 →
    IsNone blamed → Promises kept items
unfolding is_steady is_quiet
promised law.Steady items blamed is none =
    λ version other has. steady-loops other
    (ap is_empty (lines-same moves items other has) ∙ (none-means blamed (loop_handler_lines moves items) is).0 none) version
promised law.Quiet items blamed is none =
    λ text other read has. quiet-outcome text other read (quiet-lines (other.items)
    (ap is_empty (lines-same disturbs items (other.items) has) ∙ (none-means blamed (loop_handler_lines disturbs items) is).0 none) (other.version))
