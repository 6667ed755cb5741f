use Rattle.std.proofs.Common.{◌≡◌, refl, length, true, false, Bool, ℕ}
use Rattle.page_model.specs.World.{ResizeObserver}
use Rattle.resize_observer.specs.Observers.{gathered_at}
use Rattle.resize_observer.proofs.Places.{once_changed}
use Rattle.resize_observer.proofs.Numbers.{gathered-keeps}
use Rattle.resize_observer.proofs.Counts.{held-kept}
use Rattle.resize_observer.proofs.observers.Observers.gathered.Goals as goal

same_count : (place : ℕ) (active : Bool) (it : ResizeObserver) → length (gathered_at place active it).targets ≡ length it.targets
same_count place true it = refl
same_count place false it = refl

pub invariant_of-self : goal.invariant_of-self
invariant_of-self c = held-kept (gathered_at c.args.place c.args.active) (gathered-keeps c.args.place c.args.active) (same_count c.args.place c.args.active) c.self.view_is c.requires.observer c.self.invariant c.index_mut.ensures.value c.gathered.ensures

pub returns-clause-gathered : goal.returns-clause-gathered
returns-clause-gathered c = once_changed (gathered_at c.args.place c.args.active) c.self.view_is c.requires.observer c.index_mut.ensures.value c.gathered.ensures
