-- A serial number identifies one registration permanently, and an observer observes a target at most once.
use Rattle.std.specs.Prelude.{◌≡◌, ℕ, ◌≤◌, List, map, All, Some, None, nat_eq}
use Rattle.std.specs.List.{IsDistinct}
use Rattle.page_model.specs.World.{Registration, IntersectionObservers}
use Rattle.page_model.specs.Lookups.{intersection_observer_at}
use Rattle.intersection_observer.specs.Places.{standing_of}

abbrev pub registrations_at : IntersectionObservers → ℕ → List Registration
registrations_at it watcher = (intersection_observer_at it watcher).registrations

-- a registration is found by its serial number
abbrev pub IsFound : IntersectionObservers → ℕ → Registration → Type 0
IsFound it watcher registration = standing_of registration.serial it ≡ Some (record { watcher = watcher; target = registration.target })

abbrev pub targets_of : List Registration → List ℕ
targets_of registrations = map (λ (it : Registration). it.target) registrations

-- each registration is found by its serial number, none has a number from `given` on, and no observer has two for the same target
pub record HasSerials (it : IntersectionObservers) : Type 0 where
  pub found : (watcher : ℕ) → All (IsFound it watcher) (registrations_at it watcher)
  pub fresh : (serial : ℕ) → it.given ≤ serial → standing_of serial it ≡ None
  pub targets : (watcher : ℕ) → IsDistinct nat_eq (targets_of (registrations_at it watcher))
