use Rattle.std.proofs.Common.{List, arith, sym, subst}
use Rattle.page_model.specs.World.{ResizeObserver}
use Rattle.resize_observer.specs.Held.{IsHeld}
use Rattle.resize_observer.proofs.Counts.{held-none}
use Rattle.resize_observer.proofs.observers.Observers.new.Goals as goal

pub invariant_of-result : goal.invariant_of-result
invariant_of-result c = subst (λ (made : List ResizeObserver). IsHeld made c.new-2.result 0 0 c.args.most_observers c.args.most_observations) (sym c.new.ensures.items) (held-none c.new-2.result c.args.most_observers c.args.most_observations (omega (arith, c.ranges.most_observers)) (omega (arith, c.ranges.most_observations)) c.new-2.ensures)
