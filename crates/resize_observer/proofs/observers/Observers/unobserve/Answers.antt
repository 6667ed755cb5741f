use Rattle.std.proofs.Common.{◌≤◌, arith, length, subst, sym}
use Rattle.page_model.specs.World.{ResizeObserver}
use Rattle.page_model.specs.ResizeObserving.{without_observed}
use Rattle.resize_observer.proofs.Places.{once_changed, within}
use Rattle.resize_observer.proofs.Numbers.{unobserved-keeps}
use Rattle.resize_observer.proofs.Counts.{held-changed, counted, without-fewer}
use Rattle.resize_observer.proofs.observers.Observers.unobserve.Goals as goal

pub overflow_add-self : goal.overflow_add-self
overflow_add-self c =
    let few = counted (c.self.inside.made.items) (c.args.observer.0) (c.index_mut-it.result.now) (within c.self.view_is c.requires) c.index_mut-it.ensures.value in
    let fewer : length c.unobserve.new.self.targets ≤ length c.index_mut-it.result.now.targets =
    subst (λ (it : ResizeObserver). length it.targets ≤ length c.index_mut-it.result.now.targets) (sym c.unobserve.ensures) (without-fewer (c.args.target.0) (c.index_mut-it.result.now.targets)) in
    omega (arith, few, fewer, c.self.invariant.counted, c.count-before.ensures, c.count-after.ensures, c.self.ranges)

pub invariant_of-self : goal.invariant_of-self
invariant_of-self c =
    let few = counted (c.self.inside.made.items) (c.args.observer.0) (c.index_mut-it.result.now) (within c.self.view_is c.requires) c.index_mut-it.ensures.value in
    let fewer : length c.unobserve.new.self.targets ≤ length c.index_mut-it.result.now.targets =
    subst (λ (it : ResizeObserver). length it.targets ≤ length c.index_mut-it.result.now.targets) (sym c.unobserve.ensures) (without-fewer (c.args.target.0) (c.index_mut-it.result.now.targets)) in
    held-changed (λ it. record it { targets = without_observed c.args.target.0 (it.targets) }) (unobserved-keeps c.args.target.0) c.self.view_is c.requires c.self.invariant c.index_mut-it.ensures.value c.unobserve.ensures
    (omega (arith, few, c.count-before.ensures, c.count-after.ensures, c.self.invariant.counted)) fewer

pub returns-clause-unobserved : goal.returns-clause-unobserved
returns-clause-unobserved c = once_changed (λ it. record it { targets = without_observed c.args.target.0 (it.targets) }) c.self.view_is c.requires c.index_mut-it.ensures.value c.unobserve.ensures
