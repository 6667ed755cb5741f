use Rattle.std.proofs.Common.{◌≡◌, ◌∙◌, ap, sym, ℕ, Bool, true, option_map, is_some, if◌then◌else◌, ◌+◌, nat_eq}
use Rattle.page_model.specs.World.{IntersectionObserver}
use Rattle.indexmap.specs.IndexMap.{get, index_map_len}
use Rattle.intersection_observer.specs.Watchers.{serial_of, without_target}
use Rattle.intersection_observer.specs.declared.registration.RegistrationId.{RegistrationId}
use Rattle.intersection_observer.proofs.Only.{serial-none-without}
use Rattle.intersection_observer.proofs.Subjects.{subjects_of, IsSole, sole}
use Rattle.intersection_observer.proofs.Counts.{held-kept, held-unobserved, held-there}
use Rattle.intersection_observer.proofs.Numbers.{distinct_at}
use Rattle.intersection_observer.proofs.Changing.{within, read, once_changed}
use Rattle.intersection_observer.proofs.watchers.Watchers.unobserve.Goals as goal

pub invariant_of-self : goal.invariant_of-self
invariant_of-self c =
    held-kept c.self.inside.most_watchers c.self.inside.most_registrations c.self.inside.places c.self.inside.given (c.self.inside.made.items) c.args.watcher.0 c.index_mut.result.now c.unobserve.new.self
    (within c.self.view_is c.requires) c.index_mut.ensures.value
    (ap (λ (it : IntersectionObserver). subjects_of it.registrations) c.unobserve.ensures.registrations ∙ ap subjects_of (serial-none-without c.args.target.0 (c.index_mut.result.now.registrations) (sym c.in_err-registration.ensures.name)))
    c.self.invariant

pub returns-in_err-registration-clause-answer : goal.returns-in_err-registration-clause-answer
returns-in_err-registration-clause-answer c =
    ap (option_map (λ (it : RegistrationId). it.0)) c.from_residual.ensures
    ∙ c.in_err-registration.ensures.name
    ∙ ap (λ (it : IntersectionObserver). serial_of c.args.target.0 it.registrations) (read c.self.view_is c.requires c.index_mut.ensures.value)

pub returns-in_err-registration-clause-unobserved : goal.returns-in_err-registration-clause-unobserved
returns-in_err-registration-clause-unobserved c =
    once_changed (λ (it : IntersectionObserver). record it { registrations = without_target c.args.target.0 (it.registrations) }) c.self.view_is c.requires c.index_mut.ensures.value c.unobserve.ensures.registrations

pub invariant_of-self-2 : goal.invariant_of-self-2
invariant_of-self-2 c =
    let place : ℕ = c.args.watcher.0 in
    let number : ℕ = c.in_ok-registration.registration.0 in
    let old : IntersectionObserver = c.index_mut.result.now in
    let there = within c.self.view_is c.requires in
    let one : IsSole c.args.target.0 number (old.registrations) =
    sole c.args.target.0 number (old.registrations)
    (distinct_at c.self.inside.given (c.self.inside.made.items) place old there c.index_mut.ensures.value c.self.invariant.serials) (sym c.in_ok-registration.ensures.name)
    in
    let held : is_some (get nat_eq c.self.inside.places number) ≡ true =
    held-there c.self.inside.most_watchers c.self.inside.most_registrations c.self.inside.places c.self.inside.given (c.self.inside.made.items) place c.args.target.0 number old there c.index_mut.ensures.value one c.self.invariant
    in
    held-unobserved c.self.inside.most_watchers c.self.inside.most_registrations c.self.inside.places c.swap_remove.new.self c.self.inside.given (c.self.inside.made.items) place c.args.target.0 number old c.unobserve.new.self
    there c.index_mut.ensures.value (ap (λ (it : IntersectionObserver). it.registrations) c.unobserve.ensures.registrations) one
    (c.swap_remove.ensures.updates.0)
    (sym (ap (λ (b : Bool). index_map_len c.swap_remove.new.self + (if b then 1 else 0)) (ap is_some c.swap_remove.ensures.value ∙ held)) ∙ c.swap_remove.ensures.len)
    c.self.invariant

pub returns-clause-answer : goal.returns-clause-answer
returns-clause-answer c =
    c.in_ok-registration.ensures.name
    ∙ ap (λ (it : IntersectionObserver). serial_of c.args.target.0 it.registrations) (read c.self.view_is c.requires c.index_mut.ensures.value)

pub returns-clause-unobserved : goal.returns-clause-unobserved
returns-clause-unobserved c =
    once_changed (λ (it : IntersectionObserver). record it { registrations = without_target c.args.target.0 (it.registrations) }) c.self.view_is c.requires c.index_mut.ensures.value c.unobserve.ensures.registrations
