use Rattle.std.proofs.Common.{refl}
use Rattle.resize_observer.specs.Observers.{ungathered}
use Rattle.resize_observer.proofs.Places.{once_changed}
use Rattle.resize_observer.proofs.Numbers.{ungathered-keeps}
use Rattle.resize_observer.proofs.Counts.{held-kept}
use Rattle.resize_observer.proofs.observers.Observers.begin_gather.Goals as goal

pub invariant_of-self : goal.invariant_of-self
invariant_of-self c = held-kept ungathered ungathered-keeps (λ it. refl) c.self.view_is c.requires c.self.invariant c.index_mut.ensures.value c.begin_gather.ensures

pub returns-clause-begun : goal.returns-clause-begun
returns-clause-begun c = once_changed ungathered c.self.view_is c.requires c.index_mut.ensures.value c.begin_gather.ensures
