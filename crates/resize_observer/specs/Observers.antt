-- The resize observers that this crate keeps: the definitions' part of a world, and the limits on it (Resize Observer, 2 and 3).
use Rattle.std.specs.Prelude.{ℕ, ◌≤◌, ◌<◌, ◌^◌, Bool, true, false, ◌||◌, nat_lt, Option, List, [], ◌++◌, length, map, slice_get, option_to_list}
use Rattle.page_model.specs.World.{Extent, Observation, ResizeObserver, ResizeObservers}
use Rattle.page_model.specs.Lookups.{resize_observer_at, change_resize_observer}
use Rattle.page_model.specs.ResizeObserving.{is_observed, resize_observations}
use Rattle.resize_observer.specs.Documents.{numbers_of}
use Rattle.resize_observer.specs.Reports.{with_last}

-- the observers, with how many serial numbers were given, and the limits on observers and observations
pub record HeldObservers : Type 0 where
  pub part : ResizeObservers
  pub most_observers : ℕ
  pub most_observations : ℕ

abbrev pub observer_at : HeldObservers → ℕ → ResizeObserver
observer_at it observer = resize_observer_at it.part observer

-- the numbers of a document's observers, in order of creation
abbrev pub observers_of : ResizeObservers → ℕ → List ℕ
observers_of it document = numbers_of document it.made

-- the observer at a place among those of a document, none past the last
abbrev pub nth_of : HeldObservers → ℕ → ℕ → Option ℕ
nth_of it document place = slice_get (observers_of it.part document) place

-- whether one more observer may be made
abbrev pub has_room : HeldObservers → Bool
has_room it = nat_lt (length it.part.made) it.most_observers

-- whether an observer may observe a target; one that it observes already needs no room
abbrev pub may_observe : ℕ → ℕ → HeldObservers → Bool
may_observe observer n it = is_observed n (observer_at it observer).targets || nat_lt (resize_observations it.part) it.most_observations

-- the number of observations is within its limit, which fits in 32 bits
pub record IsLimited (it : HeldObservers) : Type 0 where
  pub held : resize_observations it.part ≤ it.most_observations
  pub most : it.most_observations < 2 ^ 32

-- the observers with one of them changed
abbrev pub changing : (ResizeObserver → ResizeObserver) → ℕ → HeldObservers → HeldObservers
changing change observer it = record it { part = change_resize_observer change observer (it.part) }

-- an observer with [[activeTargets]] and [[skippedTargets]] empty, as before observations are gathered
abbrev pub ungathered : ResizeObserver → ResizeObserver
ungathered it = record it { active = []; skipped = [] }

-- a copy of the observation at a place in [[observationTargets]] is appended to [[activeTargets]] if `true`, else to
-- [[skippedTargets]]
abbrev pub gathered_at : ℕ → Bool → ResizeObserver → ResizeObserver
gathered_at place true it = record it { active = it.active ++ option_to_list (slice_get it.targets place) }
gathered_at place false it = record it { skipped = it.skipped ++ option_to_list (slice_get it.targets place) }

-- the list that an observation is appended to
abbrev pub list_for : Bool → ResizeObserver → List Observation
list_for true it = it.active
list_for false it = it.skipped

-- an observer after the last reported size of its observation with this serial number was set, in [[observationTargets]] only
abbrev pub reported_at : ℕ → Extent → ResizeObserver → ResizeObserver
reported_at serial last it = record it { targets = map (with_last serial last) (it.targets) }

abbrev pub inactive : ResizeObserver → ResizeObserver
inactive it = record it { active = [] }
