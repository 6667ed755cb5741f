-- The registrations that are listed stand.
use Rattle.std.proofs.Common.{◌≡◌, ℕ, ap, sym, subst}
use Rattle.std.specs.Prelude.{List, [], ◌∷◌, map, All, is_some}
use Rattle.std.proofs.lemmas.List.Elements.{All-nil, All-cons, All-head, All-tail, All-map, All-weaker}
use Rattle.page_model.specs.World.{Registration, IntersectionObservers}
use Rattle.intersection_observer.specs.declared.registration.RegistrationId.{RegistrationId}
use Rattle.intersection_observer.specs.Seen.{serial_numbers}
use Rattle.intersection_observer.specs.Places.{IsStanding}
use Rattle.intersection_observer.specs.Serials.{HasSerials, IsFound, registrations_at}
use Rattle.intersection_observer.proofs.Entries.{serial}

of_numbers : (P : ℕ → Type 0) (names : List RegistrationId) → All P (serial_numbers names) → All (λ (it : RegistrationId). P (it.0)) names
of_numbers P [] all = All-nil (λ (it : RegistrationId). P (it.0))
of_numbers P (x ∷ xs) all = All-cons (λ (it : RegistrationId). P (it.0)) x xs (All-head P (x.0) (serial_numbers xs) all) (of_numbers P xs (All-tail P (x.0) (serial_numbers xs) all))

pub listed_stand : (it : IntersectionObservers) (watcher : ℕ) (names : List RegistrationId) → HasSerials it → serial_numbers names ≡ map serial (registrations_at it watcher) → All (λ (each : RegistrationId). IsStanding (each.0) it) names
listed_stand it watcher names serials same =
    of_numbers (λ n. IsStanding n it) names
    (subst (All (λ n. IsStanding n it)) (sym same)
    (All-map (λ n. IsStanding n it) serial (registrations_at it watcher)
    (All-weaker (IsFound it watcher) (λ (each : Registration). IsStanding (each.serial) it) (λ each found. ap is_some found) (registrations_at it watcher) (serials.found watcher))))
