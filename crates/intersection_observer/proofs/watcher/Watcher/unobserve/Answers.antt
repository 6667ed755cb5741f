use Rattle.std.proofs.Common.{◌∙◌, ap, sym, subst, ℕ, List, map, option_map, arith}
use Rattle.indexmap.proofs.SetLemmas.{map-remove}
use Rattle.page_model.specs.World.{Registration, IntersectionObserver}
use Rattle.intersection_observer.specs.Seen.{seen_registration, serial_numbers}
use Rattle.intersection_observer.specs.Watchers.{serial_of, without_target}
use Rattle.intersection_observer.specs.declared.registration.RegistrationId.{RegistrationId}
use Rattle.intersection_observer.specs.declared.registration.Registered.{Registered}
use Rattle.intersection_observer.proofs.Only.{NoneFor, IsOnly, none-serial, none-without, only-serial, only-without}
use Rattle.intersection_observer.proofs.Entries.{serial, none_from, none_found, key_for, only_at, numbers_fewer, numbers_count, with_registrations}
use Rattle.intersection_observer.proofs.watcher.Watcher.unobserve.Goals as goal

absent : (c : goal.After-from_residual) → NoneFor c.args.target.0 (c.args.self.now.registrations)
absent c =
    subst (NoneFor c.args.target.0) (ap (λ (it : IntersectionObserver). it.registrations) c.self.view_is)
    (none_found c.args.target.0 (c.self.inside.registered.entries) (none_from _ (sym c.in_err-place.ensures.found)))

pub returns-in_err-place-clause-name : goal.returns-in_err-place-clause-name
returns-in_err-place-clause-name c =
    ap (option_map (λ (it : RegistrationId). it.0)) c.from_residual.ensures ∙ sym (none-serial c.args.target.0 (c.args.self.now.registrations) (absent c))

pub returns-in_err-place-clause-registrations : goal.returns-in_err-place-clause-registrations
returns-in_err-place-clause-registrations c =
    ap (λ (these : List Registration). record (c.args.self.now) { registrations = these }) (sym (none-without c.args.target.0 (c.args.self.now.registrations) (absent c)))

entry : (c : goal.After-result-1) → ℕ × Registered
entry c = (c.in_ok-registered.field-0-0, c.in_ok-registered.registered)

only : (c : goal.After-result-1) → IsOnly c.args.target.0 c.in_ok-place.place (seen_registration (entry c)) (map seen_registration (c.self.inside.registered.entries))
unfolding entry
only c =
    let n : ℕ = c.args.target.0 in
    let place : ℕ = c.in_ok-place.place in
    only_at n place (c.self.inside.registered.entries) (entry c) c.in_ok-place.ensures.unique (sym c.in_ok-registered.ensures.entry)
    (key_for n place (c.self.inside.registered.entries) (entry c) (sym c.in_ok-place.ensures.index) (sym c.in_ok-registered.ensures.entry))

pub invariant_of-self-2 : goal.invariant_of-self-2
invariant_of-self-2 c =
    ap serial_numbers c.remove.ensures.items
    ∙ numbers_fewer (c.self.inside.names.items) (c.self.inside.registered.entries) c.in_ok-place.place c.self.invariant
    ∙ ap (λ (entries : List (ℕ × Registered)). map serial (map seen_registration entries)) (sym c.shift_remove_index.ensures.entries)

pub returns-clause-name : goal.returns-clause-name
unfolding entry
returns-clause-name c =
    sym (only-serial c.args.target.0 c.in_ok-place.place (seen_registration (entry c)) (map seen_registration (c.self.inside.registered.entries)) (only c))
    ∙ ap (λ (it : IntersectionObserver). serial_of c.args.target.0 it.registrations) c.self.view_is

pub returns-clause-registrations : goal.returns-clause-registrations
returns-clause-registrations c =
    with_registrations (without_target c.args.target.0) (map seen_registration (c.shift_remove_index.new.self.entries)) c.self.view_is
    (ap (map seen_registration) c.shift_remove_index.ensures.entries
    ∙ map-remove seen_registration (c.self.inside.registered.entries) c.in_ok-place.place
    ∙ only-without c.args.target.0 c.in_ok-place.place (seen_registration (entry c)) (map seen_registration (c.self.inside.registered.entries)) (only c))

pub remove-requires : goal.remove-requires
remove-requires c =
    omega (arith, numbers_count (c.self.inside.names.items) (c.self.inside.registered.entries) c.self.invariant, c.in_ok-place.ensures.within, c.self.inside.names.ok.0)
