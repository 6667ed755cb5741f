-- A serial number identifies one observation permanently: in whichever list an observation with this number is, it observes the
-- same box of the same target.
use Rattle.std.specs.Prelude.{◌≡◌, ℕ, ◌<◌, List, All}
use Rattle.std.specs.List.{AllPairs}
use Rattle.px_units.specs.declared.BoxKind.{BoxKind}
use Rattle.page_model.specs.World.{Observation, ResizeObserver}

-- what is observed: a target, and which of its boxes
pub record Subject : Type 0 where
  pub target : ℕ
  pub observed : BoxKind

abbrev pub subject_of : Observation → Subject
subject_of it = record { target = it.target; observed = it.observed }

-- the observation has a number that was given, and observes the subject that belongs to it
pub record IsNumbered (subjects : ℕ → Subject) (given : ℕ) (it : Observation) : Type 0 where
  pub below : it.serial < given
  pub subject : subject_of it ≡ subjects it.serial

pub record AreNumbered (subjects : ℕ → Subject) (given : ℕ) (it : ResizeObserver) : Type 0 where
  pub targets : All (IsNumbered subjects given) it.targets
  pub active : All (IsNumbered subjects given) it.active
  pub skipped : All (IsNumbered subjects given) it.skipped

pub record HasSerials (given : ℕ) (made : List ResizeObserver) : Type 0 where
  pub subjects : ℕ → Subject
  pub each : All (AreNumbered subjects given) made

-- the serial numbers increase strictly along a list
abbrev pub IsRising : List Observation → Type 0
IsRising xs = AllPairs (λ (earlier later : Observation). earlier.serial < later.serial) xs

-- a number that is greater than all serial numbers in a list
abbrev pub IsAbove : ℕ → List Observation → Type 0
IsAbove serial xs = All (λ (each : Observation). each.serial < serial) xs
