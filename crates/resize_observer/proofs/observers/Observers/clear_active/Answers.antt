use Rattle.std.proofs.Common.{refl}
use Rattle.resize_observer.specs.Observers.{inactive}
use Rattle.resize_observer.proofs.Places.{once_changed}
use Rattle.resize_observer.proofs.Numbers.{inactive-keeps}
use Rattle.resize_observer.proofs.Counts.{held-kept}
use Rattle.resize_observer.proofs.observers.Observers.clear_active.Goals as goal

pub invariant_of-self : goal.invariant_of-self
invariant_of-self c = held-kept inactive inactive-keeps (λ it. refl) c.self.view_is c.requires c.self.invariant c.index_mut.ensures.value c.clear_active.ensures

pub returns-clause-cleared : goal.returns-clause-cleared
returns-clause-cleared c = once_changed inactive c.self.view_is c.requires c.index_mut.ensures.value c.clear_active.ensures
