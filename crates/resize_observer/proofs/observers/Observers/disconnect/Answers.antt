use Rattle.std.proofs.Common.{◌≡◌, ap, arith, length}
use Rattle.std.specs.Prelude.{[]}
use Rattle.page_model.specs.World.{ResizeObserver}
use Rattle.resize_observer.proofs.Places.{once_changed, within}
use Rattle.resize_observer.proofs.Numbers.{disconnected-keeps}
use Rattle.resize_observer.proofs.Counts.{held-changed, counted}
use Rattle.resize_observer.proofs.observers.Observers.disconnect.Goals as goal

pub invariant_of-self : goal.invariant_of-self
invariant_of-self c =
    let few = counted (c.self.inside.made.items) (c.args.observer.0) (c.index_mut-it.result.now) (within c.self.view_is c.requires) c.index_mut-it.ensures.value in
    let none : length c.disconnect.new.self.targets ≡ 0 = ap (λ (it : ResizeObserver). length it.targets) c.disconnect.ensures in
    held-changed (λ it. record it { targets = []; active = [] }) disconnected-keeps c.self.view_is c.requires c.self.invariant c.index_mut-it.ensures.value c.disconnect.ensures
    (omega (arith, few, none, c.count-before.ensures, c.self.invariant.counted)) (omega (arith, none))

pub returns-clause-disconnected : goal.returns-clause-disconnected
returns-clause-disconnected c = once_changed (λ it. record it { targets = []; active = [] }) c.self.view_is c.requires c.index_mut-it.ensures.value c.disconnect.ensures
