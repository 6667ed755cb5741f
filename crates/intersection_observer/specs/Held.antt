-- The invariants of the intersection observers.
use Rattle.std.specs.Prelude.{◌≡◌, ℕ, ◌≤◌, ◌<◌, ◌^◌, length, nat_eq, option_map}
use Rattle.indexmap.specs.IndexMap.{IndexMap, get, index_map_len}
use Rattle.page_model.specs.World.{IntersectionObservers}
use Rattle.page_model.specs.IntersectionObserving.{intersection_observations}
use Rattle.intersection_observer.specs.Places.{Standing, standing_of}
use Rattle.intersection_observer.specs.Serials.{HasSerials}
use Rattle.intersection_observer.specs.declared.registration.Place.{Place}

abbrev pub seen_place : Place → Standing
seen_place it = record { watcher = it.watcher; target = it.target }

-- the places hold the observer and the target for the serial number of each registration, and for no other number
pub record IsHeld {S : Type 0} (places : IndexMap ℕ Place S) (it : IntersectionObservers) (most_watchers most_registrations : ℕ) : Type 0 where
  pub watchers : length it.made ≤ most_watchers
  pub numbers : most_watchers < 2 ^ 32
  pub told : (serial : ℕ) → option_map seen_place (get nat_eq places serial) ≡ standing_of serial it
  pub counted : index_map_len places ≡ intersection_observations it
  pub registrations : intersection_observations it ≤ most_registrations
  pub serials : HasSerials it
