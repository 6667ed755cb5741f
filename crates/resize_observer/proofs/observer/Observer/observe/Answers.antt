use Rattle.std.proofs.Common.{◌∙◌, ◌++◌, ◌∷◌, [], List, All, ap, sym, subst, arith}
use Rattle.page_model.specs.World.{ResizeObserver}
use Rattle.page_model.specs.ResizeObserving.{without_observed}
use Rattle.resize_observer.specs.declared.observation.Observation.{Observation}
use Rattle.resize_observer.specs.Observations.{HasSize, seen_observation, seen_observations}
use Rattle.resize_observer.specs.Serials.{IsAbove}
use Rattle.resize_observer.proofs.Kept.{kept-observed}
use Rattle.resize_observer.proofs.observer.Observer.observe.Goals as goal

pub invariant_of-self-2 : goal.invariant_of-self-2
invariant_of-self-2 c =
    let is =
    c.put_last.ensures.items
    ∙ ap (λ (these : List Observation). without_observed c.args.observation.target.0 (seen_observations these) ++ seen_observation c.args.observation ∷ []) c.in_ok-reserve.ensures.items in
    kept-observed c.args.observation c.put_last.new.observations.items c.insert.new.self c.self.invariant
    (subst (λ (it : ResizeObserver). IsAbove c.args.observation.number it.targets) (sym c.self.view_is) c.requires.above) is c.in_ok-is_new.ensures.updates.0
    (omega (arith, c.put_last.ensures.bound, c.put_last.new.observations.ok.0, c.in_ok-reserve-2.ensures.ok, c.in_ok-reserve-2.ensures.len, c.in_ok-reserve.ensures.len))
    (omega (arith, c.put_last.ensures.bound, c.put_last.new.observations.ok.0, c.in_ok-reserve-3.ensures.ok, c.in_ok-reserve-3.ensures.len, c.in_ok-reserve.ensures.len))
    (c.put_last.ensures.sizes (subst (All HasSize) (sym c.in_ok-reserve.ensures.items) c.self.invariant.sizes) c.requires.size)
    c.in_ok-reserve-2.ensures.items c.in_ok-reserve-3.ensures.items
