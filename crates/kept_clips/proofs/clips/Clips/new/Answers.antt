use Rattle.std.proofs.Common.{sym, subst, []}
use Rattle.std.specs.FinMap.{FinMap}
use Rattle.std.specs.Ordering.{nat_cmp}
use Rattle.kept_clips.specs.declared.pair.Pair.{Pair}
use Rattle.kept_clips.specs.Touches.{Touched}
use Rattle.kept_clips.specs.Numbers.{AreNumbered}
use Rattle.kept_clips.specs.Chains.{IsExact}
use Rattle.kept_clips.proofs.Pairs.{numbered_empty, exact_empty}
use Rattle.kept_clips.proofs.clips.Clips.new.Goals as goal

pub invariant_of-result : goal.invariant_of-result
invariant_of-result c =
    subst (λ (touches : Touched). AreNumbered (record { touches = touches; pairs = c.new-2.result })) (sym c.new.ensures)
    (subst (λ (pairs : FinMap nat_cmp Pair). AreNumbered (record { touches = record { count = 0; nodes = []; views = [] }; pairs = pairs })) (sym c.new-2.ensures) numbered_empty)

pub returns-clause-exact : goal.returns-clause-exact
returns-clause-exact c = λ scene number.
    subst (λ (pairs : FinMap nat_cmp Pair). IsExact scene (record { touches = c.new.result; pairs = pairs }) number) (sym c.new-2.ensures)
    (exact_empty scene c.new.result number)
