use Rattle.std.proofs.Common.{◌≡◌, ◌∙◌, ap, ◌++◌, ◌∷◌, [], false, None, ℕ, List, map}
use Rattle.std.proofs.lemmas.List.{map_push}
use Rattle.page_model.specs.World.{Registration, IntersectionObserver}
use Rattle.page_model.specs.IntersectionObserving.{is_registered}
use Rattle.intersection_observer.specs.Seen.{seen_registration, serial_numbers}
use Rattle.intersection_observer.specs.declared.registration.RegistrationId.{RegistrationId}
use Rattle.intersection_observer.specs.declared.registration.Registered.{Registered}
use Rattle.intersection_observer.proofs.Entries.{entry_more, numbers_more, with_registrations}
use Rattle.intersection_observer.proofs.watcher.Watcher.observe.Goals as goal

first : RegistrationId → Registered
first registration = record { registration = registration; previous = None; met = false }

more : (c : goal.After-push_reserved) → c.insert.new.self.entries ≡ c.self.inside.registered.entries ++ (c.args.target.0, first c.args.registration) ∷ []
unfolding first
more c =
    c.in-Ok.ensures.entries
    ∙ entry_more c.self.inside.registered c.args.target.0 (first c.args.registration) (ap (λ (it : IntersectionObserver). is_registered c.args.target.0 it.registrations) c.self.view_is ∙ c.requires)

pub invariant_of-self-2 : goal.invariant_of-self-2
unfolding first
invariant_of-self-2 c =
    ap serial_numbers (c.push_reserved.ensures.items ∙ ap (λ (names : List RegistrationId). names ++ c.args.registration ∷ []) c.in_ok-reserve.ensures.items)
    ∙ numbers_more (c.self.inside.names.items) (c.self.inside.registered.entries) (c.insert.new.self.entries) c.args.target.0 (first c.args.registration) c.self.invariant (more c)

pub returns-clause-ok : goal.returns-clause-ok
unfolding first
returns-clause-ok c =
    let entry : ℕ × Registered = (c.args.target.0, first c.args.registration) in
    with_registrations (λ (these : List Registration). these ++ seen_registration entry ∷ []) (map seen_registration (c.insert.new.self.entries)) c.self.view_is
    (ap (map seen_registration) (more c) ∙ map_push seen_registration (c.self.inside.registered.entries) entry)
