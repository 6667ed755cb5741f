use Rattle.std.proofs.Common.{◌∙◌, ap, sym, subst, arith, map, List, All}
use Rattle.std.proofs.lemmas.List.{with_items_is}
use Rattle.std.specs.Vec.{with_items}
use Rattle.resize_observer.specs.declared.observation.Observation.{Observation}
use Rattle.resize_observer.specs.Observations.{HasSize, seen_size, seen_observations}
use Rattle.resize_observer.specs.Reports.{with_last}
use Rattle.resize_observer.proofs.Kept.{kept-reported}
use Rattle.resize_observer.proofs.observer.Observer.report.Goals as goal

pub invariant_of-self : goal.invariant_of-self
invariant_of-self c =
    let is = with_items_is c.self.inside.targets c.set_last.new.observations (omega (arith, c.set_last.auto.observations, c.as_mut_slice.ensures.len)) in
    kept-reported c.args.number (seen_size c.args.last) (with_items c.self.inside.targets c.set_last.new.observations).items c.self.invariant
    (ap seen_observations is
    ∙ c.set_last.ensures.reported ∙ ap (λ (these : List Observation). map (with_last c.args.number (seen_size c.args.last)) (seen_observations these)) c.as_mut_slice.ensures.value)
    (subst (All HasSize) (sym is) (c.set_last.ensures.sizes (subst (All HasSize) (sym c.as_mut_slice.ensures.value) c.self.invariant.sizes)))
