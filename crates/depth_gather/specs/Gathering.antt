-- Gathering in progress, and how much was gathered (Resize Observer, 3.4: gather active observations at depth).
use Rattle.std.specs.Prelude.{ℕ, not, List, filter, take, sum_by, length}
use Rattle.page_model.specs.World.{Observation, ResizeObserver, ResizeObservers}
use Rattle.page_model.specs.Gathering.{Sight, has_changed, is_deeper, is_of}

-- an observer whose active and skipped lists are what is gathered from these observations
abbrev pub gathered_of : Sight → ℕ → List Observation → ResizeObserver → ResizeObserver
gathered_of sight depth observations observer =
    let changed = filter (has_changed sight) observations in
    record observer {
      active = filter (is_deeper sight depth) changed;
      skipped = filter (λ observation. not (is_deeper sight depth observation)) changed;
    }

-- an observer after only the first `most` of its [[observationTargets]] were gathered
abbrev pub gathered_first : Sight → ℕ → ℕ → ResizeObserver → ResizeObserver
gathered_first sight depth most observer = gathered_of sight depth (take most (observer.targets)) observer

-- the number of active observations of a document's observers
abbrev pub active_count : ℕ → ResizeObservers → ℕ
active_count document it = sum_by (λ observer. length (observer.active)) (filter (is_of document) (it.made))
