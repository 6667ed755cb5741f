-- The intersection observers that this crate keeps: the definitions' part of a world, and the limits on it.
use Rattle.std.specs.Prelude.{ℕ, Bool, ◌==◌, cond, nat_lt, not, length, find, filter, List, Option, option_map}
use Rattle.page_model.specs.World.{Registration, IntersectionObserver, IntersectionObservers}
use Rattle.page_model.specs.Lookups.{intersection_observer_at}
use Rattle.page_model.specs.IntersectionObserving.{is_registered, intersection_observations, with_registration}
use Rattle.intersection_observer.specs.Serials.{registrations_at}

-- the observers, with how many serial numbers were given, and the limits on observers and registrations
pub record HeldWatchers : Type 0 where
  pub part : IntersectionObservers
  pub most_watchers : ℕ
  pub most_registrations : ℕ

abbrev pub watcher_at : HeldWatchers → ℕ → IntersectionObserver
watcher_at it watcher = intersection_observer_at it.part watcher

-- whether one more observer may be made
abbrev pub has_room : HeldWatchers → Bool
has_room it = nat_lt (length it.part.made) it.most_watchers

-- whether an observer has a registration for a target
abbrev pub observes : ℕ → ℕ → HeldWatchers → Bool
observes watcher n it = is_registered n (watcher_at it watcher).registrations

-- whether one more registration may be held
abbrev pub may_register : HeldWatchers → Bool
may_register it = nat_lt (intersection_observations it.part) it.most_registrations

-- the observers after a target was observed; an existing registration for it is left as it is
abbrev pub once_observed : ℕ → ℕ → IntersectionObservers → IntersectionObservers
once_observed watcher n it = cond (is_registered n (registrations_at it watcher)) it (with_registration watcher n it)

-- the registrations without the one for a target
abbrev pub without_target : ℕ → List Registration → List Registration
without_target n registrations = filter (λ (it : Registration). not (it.target == n)) registrations

-- the serial number of the registration for a target, if there is one
abbrev pub serial_of : ℕ → List Registration → Option ℕ
serial_of n registrations = option_map (λ (it : Registration). it.serial) (find (λ (it : Registration). it.target == n) registrations)
