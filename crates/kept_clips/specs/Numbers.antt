-- Bounds on the touch numbers that are held.
use Rattle.std.specs.Prelude.{ℕ, ◌≤◌, Option, Some, None}
use Rattle.kept_clips.specs.declared.pair.Computed.{Computed}
use Rattle.element_tree.specs.declared.container.Container.{Container}
use Rattle.kept_clips.specs.Touches.{last_number, last_touch}
use Rattle.kept_clips.specs.Held.{HeldClips, pair_of}

abbrev pub IsNumbered : ℕ → Option Computed → Type 0
IsNumbered count None = Unit {0}
IsNumbered count (Some computed) = computed.touches ≤ count

-- no touch number of a spot or of a computed clip is greater than the current count, which is at most the last number
pub record AreNumbered (it : HeldClips) : Type 0 where
  pub touched : (spot : Container) → last_touch it.touches spot ≤ it.touches.count
  pub numbered : (number : ℕ) → IsNumbered it.touches.count (pair_of it number).computed
  pub counted : it.touches.count ≤ last_number
