use Rattle.std.proofs.Common.{rules}
use Rattle.resize_observer.specs.Observations.{seen_size}
use Rattle.resize_observer.proofs.Rising.{missed-reported, found-reported}
use Rattle.px_units.specs.declared.BoxKind.TheVariants.{Content}
use Rattle.std.proofs.lemmas.List.Sorted.{answers_always}
use Rattle.resize_observer.specs.declared.observation.Observation.{Observation}
use Rattle.std.proofs.Common.{get_or, ◌∙◌, pos}
use Rattle.std.proofs.lemmas.List.{map-set}
use Rattle.resize_observer.specs.Observations.{seen_observation}
use Rattle.resize_observer.proofs.observation.set_last.Goals as goal

pub returns-in-Ok-clause-reported : goal.returns-in-Ok-clause-reported
returns-in-Ok-clause-reported c =
    let none : Observation = record { number = 0; target = record { 0 = 0 }; observed = Content; last = record { width = pos 0; height = pos 0 } } in
    let equal = c.in-Ok.ensures.position (λ (each : Observation). each.number) (answers_always _ _ _ (λ f a r g called. search rules)) in
    map-set seen_observation c.args.observations.now c.in-Ok.place (record (get_or c.args.observations.now c.in-Ok.place none) { last = c.args.last })
    ∙ found-reported c.args.number (seen_size c.args.last) c.args.observations.now c.in-Ok.place none c.requires.rising c.in-Ok.ensures.bound (equal none)

pub returns-in_default-clause-reported : goal.returns-in_default-clause-reported
returns-in_default-clause-reported c =
    missed-reported c.args.number (seen_size c.args.last) c.args.observations.now c.in_default.field-0 (record { number = 0; target = record { 0 = 0 }; observed = Content; last = c.args.last })
    c.requires.rising (c.in_default.ensures.position (λ (each : Observation). each.number) (answers_always _ _ _ (λ f a r g called. search rules)))
