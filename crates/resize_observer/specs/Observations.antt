-- What the observations of this crate stand for (Resize Observer, 3.1: ResizeObservation).
use Rattle.std.specs.Prelude.{List, map, pos, unsigned_abs, ◌≤ℤ◌}
use Rattle.px_units.specs.declared.Size.{Size}
use Rattle.page_model.specs.World.{Extent, Observation as ModelObservation}
use Rattle.resize_observer.specs.declared.observation.Observation.{Observation}

-- a size that isn't negative
pub record IsSize (size : Size) : Type 0 where
  pub width : pos 0 ≤ℤ size.width
  pub height : pos 0 ≤ℤ size.height

-- the last reported size isn't negative
abbrev pub HasSize : Observation → Type 0
HasSize it = IsSize it.last

-- the definitions' sizes are natural numbers
abbrev pub seen_size : Size → Extent
seen_size size = record { across = unsigned_abs size.width; down = unsigned_abs size.height }

abbrev pub seen_observation : Observation → ModelObservation
seen_observation it = record { serial = it.number; target = it.target.0; observed = it.observed; last = seen_size it.last }

abbrev pub seen_observations : List Observation → List ModelObservation
seen_observations observations = map seen_observation observations
