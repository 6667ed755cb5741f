-- What a walk downwards has measured so far.
use Rattle.std.specs.Prelude.{◌≡◌, ◌≤◌, ◌⊎◌, ℕ, ℤ, pos, ◌+ℤ◌, ◌-ℤ◌, ◌≤ℤ◌, Bool, true, false, cond, ◌==◌, not, ◌&&◌, find, is_some, Some, List}
use Rattle.px_units.specs.declared.Point.{Point}
use Rattle.px_units.specs.declared.Size.{Size}
use Rattle.px_units.specs.Lengths.{at_least_zero}
use Rattle.layout_model.specs.Nodes.{Node, path_of, is_in_path, is_positioned, is_on_screen, Holder, HeldByElement, HeldByPage, HeldByScreen, held_by, holder}
use Rattle.layout_model.specs.Clips.{clips}
use Rattle.layout_model.specs.Views.{View, inputs_in_view}
use Rattle.layout_model.specs.FlatPlaces.{corner_of, flat_place}
use Rattle.layout_model.specs.Reach.{clipped_by, is_it, edges_from}
use Rattle.element_tree.specs.Forest.{has}
use Rattle.positioned_layout.specs.declared.insets.Axis.{Axis}
use Rattle.positioned_layout.specs.declared.reaches.Held.{Held}
use Rattle.positioned_layout.specs.declared.reaches.Around.{Around}
use Rattle.positioned_layout.specs.declared.reaches.Farthest.{Farthest}
use Rattle.positioned_layout.specs.Along.{part}
use Rattle.positioned_layout.specs.Seen.{as_place, pair_of_size, IsNearPoint, IsCornerPoint}

-- the distances of the right and bottom edges of a border box from a corner, 0 where an edge isn't past it
abbrev pub edges_past : Point → Size → Point → ℕ × ℕ
edges_past place border corner =
    (at_least_zero (place.left +ℤ border.width -ℤ corner.left), at_least_zero (place.top +ℤ border.height -ℤ corner.top))

-- `now` is the greatest of `first` and of the edges of some nodes
pub record IsFarther (edge : ℕ → ℕ) (of : ℕ → Type 0) (first now : ℕ) : Type 0 where
  pub begun : first ≤ now
  pub over : (d : ℕ) → of d → edge d ≤ now
  pub met : (now ≡ first) ⊎ ((d : ℕ) × of d × (now ≡ edge d))

-- the same on both axes
abbrev pub IsFar : (ℕ → Node) → View → (ℕ → Type 0) → Farthest → Farthest → Type 0
IsFar at view of first now =
    (axis : Axis) (corner : ℤ × ℤ) → first.corner ≡ as_place corner →
    IsFarther (λ d. part axis (edges_from at view corner d)) of (part axis (pair_of_size first.size)) (part axis (pair_of_size now.size))

-- a node with a box whose holder is reached
pub record IsReached (at : ℕ → Node) (view : View) (opens : Holder → Bool) (d : ℕ) : Type 0 where
  pub boxed : is_some (inputs_in_view at view d) ≡ true
  pub held : opens (holder at d) ≡ true

-- such a node among these nodes and what is in them
abbrev pub IsReachedIn : (ℕ → Node) → View → (Holder → Bool) → List ℕ → ℕ → Type 0
IsReachedIn at view opens among d = ((c : ℕ) × (has among c ≡ true) × (is_in_path at c d ≡ true)) × IsReached at view opens d

-- in a node, what an element's box holds is reached exactly if that box is reached and clips nothing
abbrev pub IsOpenIn : (ℕ → Node) → ℕ → (Holder → Bool) → Type 0
IsOpenIn at n opens =
    (c p : ℕ) → is_in_path at n p ≡ true → (at c).parent ≡ Some p → opens (HeldByElement c) ≡ (opens (holder at c) && not (clips (at c)))

-- the holder of an absolute box in a node
abbrev pub absolute_in : (ℕ → Node) → ℕ → Holder
absolute_in at n = held_by (find (λ a. is_positioned (at a)) (path_of at n))

-- whether the reach of an element includes the boxes with this holder, and whether that of a viewport does
abbrev pub opens_in : (ℕ → Node) → ℕ → Holder → Bool
opens_in at n (HeldByElement h) = cond (clips (at h)) (h == n) (is_it n (clipped_by at h))
opens_in at n HeldByPage = false
opens_in at n HeldByScreen = false

abbrev pub opens_view : (ℕ → Node) → Holder → Bool
opens_view at (HeldByElement h) = not (clips (at h)) && (not (is_some (clipped_by at h)) && not (is_on_screen at h))
opens_view at HeldByPage = true
opens_view at HeldByScreen = false

pub record IsHeld (at : ℕ → Node) (view : View) (opens : Holder → Bool) (by : Holder) (held : Held) : Type 0 where
  pub corner : held.corner ≡ as_place (corner_of at (flat_place at view) by)
  pub opened : held.opened ≡ opens by

-- what is known of the holders of boxes in a node
pub record IsAround (at : ℕ → Node) (view : View) (n : ℕ) (opens : Holder → Bool) (around : Around) : Type 0 where
  pub place : around.place ≡ as_place (flat_place at view n)
  pub flow : around.flow ≡ opens (HeldByElement n)
  pub absolute : IsHeld at view opens (absolute_in at n) around.absolute
  pub fixed : IsHeld at view opens HeldByScreen around.fixed

-- the same places are no farther from 0 than so many boxes can be, each placed relative to another
pub record IsNearAround (boxes : ℕ) (around : Around) : Type 0 where
  pub place : IsNearPoint boxes around.place
  pub absolute : IsCornerPoint boxes around.absolute.corner
  pub fixed : IsCornerPoint boxes around.fixed.corner

-- from 0 to 2 ^ 60, which is more than any edge can be past a corner
abbrev pub IsEdge : ℤ → Type 0
IsEdge units = (pos 0 ≤ℤ units) × (units ≤ℤ pos 1152921504606846976)

pub record IsRoom (far : Farthest) : Type 0 where
  pub corner : IsCornerPoint 65536 far.corner
  pub width : IsEdge far.size.width
  pub height : IsEdge far.size.height
