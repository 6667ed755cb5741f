use Rattle.std.proofs.Common.{◌∙◌, ap, refl, ◌==◌, ◌-◌, ℕ, length, sym, map, option_map}
use Rattle.std.proofs.lemmas.Bool.{eq-eqb}
use Rattle.std.proofs.lemmas.Map.Keys.{any_passes_from_place}
use Rattle.std.proofs.lemmas.Option.{slice_get-map}
use Rattle.page_model.specs.World.{Registration, IntersectionObserver}
use Rattle.page_model.specs.IntersectionObserving.{is_registered}
use Rattle.intersection_observer.specs.Seen.{seen_registration}
use Rattle.intersection_observer.specs.declared.registration.Registered.{Registered}
use Rattle.intersection_observer.proofs.watcher.Watcher.last_target.Goals as goal

pub returns-in-Some-clause-some : goal.returns-in-Some-clause-some
returns-in-Some-clause-some c =
    let n : ℕ = c.in-Some.target.now in
    let entry : ℕ × Registered = (n, c.in-Some.field-0-1.now) in
    let last : ℕ = length (c.self.inside.registered.entries) - 1 in
    ap (λ (it : IntersectionObserver). is_registered n it.registrations) (sym c.self.view_is)
    ∙ any_passes_from_place (λ (each : Registration). each.target == n) (map seen_registration (c.self.inside.registered.entries)) last (seen_registration entry)
    (slice_get-map seen_registration (c.self.inside.registered.entries) last ∙ ap (option_map seen_registration) (sym c.in-Some.ensures.entry)) (eq-eqb n n refl)
