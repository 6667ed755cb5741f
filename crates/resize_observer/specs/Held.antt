-- The invariants of the resize observers.
use Rattle.std.specs.Prelude.{◌≡◌, ℕ, ◌≤◌, ◌<◌, ◌^◌, List, All, length, sum_by, nat_eq}
use Rattle.std.specs.HashSet.{HashSet, contains}
use Rattle.page_model.specs.World.{ResizeObserver}
use Rattle.page_model.specs.ResizeObserving.{is_observed}
use Rattle.resize_observer.specs.declared.documents.Documents.{Documents}
use Rattle.resize_observer.specs.declared.observation.Observation.{Observation}
use Rattle.resize_observer.specs.Observations.{HasSize, seen_observations}
use Rattle.resize_observer.specs.Documents.{Tells}
use Rattle.resize_observer.specs.Serials.{HasSerials, IsRising}

-- one observer: its observations are in order of their serial numbers, the set holds exactly the elements that they observe, and
-- the active and the skipped list have room for as many observations; no last reported size in any of the three lists is negative
pub record IsKept {S : Type 0} (targets on_active on_skipped : List Observation) (observed : HashSet ℕ S) (active_room skipped_room : ℕ) : Type 0 where
  pub rising : IsRising (seen_observations targets)
  pub elements : (n : ℕ) → contains nat_eq observed n ≡ is_observed n (seen_observations targets)
  pub active : length targets ≤ active_room
  pub skipped : length targets ≤ skipped_room
  pub sizes : All HasSize targets
  pub active_sizes : All HasSize on_active
  pub skipped_sizes : All HasSize on_skipped

-- the number of observations in the [[observationTargets]] of all these observers
abbrev pub targets_in : List ResizeObserver → ℕ
targets_in made = sum_by (λ observer. length (observer.targets)) made

pub record IsHeld (made : List ResizeObserver) (documents : Documents) (observed held most_observers most_observations : ℕ) : Type 0 where
  pub observers : length made ≤ most_observers
  pub numbers : most_observers < 2 ^ 32
  pub most : most_observations < 2 ^ 32
  pub counted : held ≡ targets_in made
  pub observations : held ≤ most_observations
  pub serials : HasSerials observed made
  pub told : Tells documents made
