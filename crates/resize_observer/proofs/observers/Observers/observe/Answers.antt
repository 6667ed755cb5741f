use Rattle.std.proofs.Common.{arith, refl, ◌∙◌, sym}
use Rattle.resize_observer.proofs.Places.{once_observed, within}
use Rattle.resize_observer.proofs.Counts.{count-observed, held-observed}
use Rattle.resize_observer.proofs.Numbers.{next-above}
use Rattle.resize_observer.proofs.observers.Observers.observe.Goals as goal

pub observe-requires-clause-above : goal.observe-requires-clause-above
observe-requires-clause-above c =
    next-above c.self.inside.observed c.self.inside.made.items c.args.observer.0 c.index_mut-it.result.now (within c.self.view_is c.requires.observer) c.index_mut-it.ensures.value c.self.invariant.serials

pub overflow_add-self : goal.overflow_add-self
overflow_add-self c =
    let counts =
    count-observed _ c.self.view_is c.requires.observer c.self.invariant.counted c.self.invariant.observations (sym c.may_observe.ensures ∙ c.if-not-may_observe.false)
    c.index_mut-it.ensures.value c.in-Ok.ensures.ok c.count-before.ensures c.count-after.ensures in
    omega (arith, counts.1, c.self.ranges)

pub invariant_of-self-2 : goal.invariant_of-self-2
invariant_of-self-2 c =
    let counts =
    count-observed _ c.self.view_is c.requires.observer c.self.invariant.counted c.self.invariant.observations (sym c.may_observe.ensures ∙ c.if-not-may_observe.false)
    c.index_mut-it.ensures.value c.in-Ok.ensures.ok c.count-before.ensures c.count-after.ensures in
    held-observed _ c.self.view_is c.requires.observer c.self.invariant refl c.index_mut-it.ensures.value c.in-Ok.ensures.ok counts.0 counts.1

pub returns-clause-observed : goal.returns-clause-observed
returns-clause-observed c = once_observed c.args.target.0 c.args.observed c.self.view_is c.requires.observer c.index_mut-it.ensures.value c.in-Ok.ensures.ok
