-- When what is kept is consistent with a tree, so that boxes without a mark are up to date.
use Rattle.std.specs.Prelude.{◌≡◌, ◌<◌, ℕ, Bool, true, false, not, ◌&&◌, ◌||◌, List, length, Option, Some, None, sum_by}
use Rattle.std.specs.List.{list_any}
use Rattle.px_units.specs.Lengths.{cap}
use Rattle.layout_model.specs.Styles.{Sides}
use Rattle.layout_model.specs.Nodes.{Node, is_in_path, is_in_flow}
use Rattle.layout_model.specs.Boxes.{Inputs, Box, computed, child_inputs, kids_of, counted, total}
use Rattle.layout_model.specs.FlatPlaces.{before}
use Rattle.element_tree.specs.Forest.{has}
use Rattle.block_layout.specs.Seen.{seen_inputs}
use Rattle.kept_layout.specs.declared.slots.Slot.{Slot}
use Rattle.kept_layout.specs.declared.slots.Found.{Found}
use Rattle.kept_layout.specs.Slots.{slot_in}

-- a child that has a box if its parent has one (CSS 2.2, 9.2.4): the parent is a block, and the child is displayed
pub record IsShownIn (at : ℕ → Node) (p c : ℕ) : Type 0 where
  pub listed : has (kids_of (at p)) c ≡ true
  pub shown : (at c).item.style.hidden ≡ false

-- such a child that is counted in its parent, since it is in flow (CSS 2.2, 9.3)
pub record IsCounted (at : ℕ → Node) (p c : ℕ) : Type 0 where
  pub child : IsShownIn at p c
  pub flow : is_in_flow (at c) ≡ true

abbrev pub no_sides : Sides ℕ
no_sides = record { top = 0; right = 0; bottom = 0; left = 0 }

abbrev pub box_found : Option Found → Box
box_found None = record { width = 0; height = 0; margin = no_sides; border = no_sides; padding = no_sides }
box_found (Some found) = found.own

-- the box that is held for a node, an empty one if none is
abbrev pub box_held : (ℕ → Slot) → ℕ → Box
box_held slot n = box_found (slot n).found

-- the height stacked above a child of a node, by the boxes that are held
abbrev pub above_held : (ℕ → Node) → (ℕ → Slot) → ℕ → ℕ → ℕ
above_held at slot p c = cap (sum_by (counted at (box_held slot)) (before c (kids_of (at p))))

-- what is held for a child in flow was computed from the inputs that its parent passes down
pub record IsHeldIn (at : ℕ → Node) (slot : ℕ → Slot) (p : ℕ) (inputs : Inputs) (c : ℕ) : Type 0 where
  pub found : Found
  pub held : (slot c).found ≡ Some found
  pub from : seen_inputs found.inputs ≡ child_inputs (at p).item inputs

abbrev pub outside_found : Option Found → Bool
outside_found None = false
outside_found (Some found) = found.outside

-- whether a child of a node is displayed and out of flow, or is displayed and held with a box out of flow in it
abbrev pub has_outside : (ℕ → Node) → (ℕ → Slot) → ℕ → Bool
has_outside at slot c = not (at c).item.style.hidden && (not (is_in_flow (at c)) || outside_found (slot c).found)

-- a held box is the one that its inputs and the boxes held for its children in flow give; each child with a box, in flow or not,
-- is kept with the height that is stacked above it; and `outside` tells whether a box in it is out of flow
pub record IsRight (at : ℕ → Node) (slot : ℕ → Slot) (n : ℕ) (found : Found) : Type 0 where
  pub box : found.own ≡ computed (at n).item (seen_inputs found.inputs) (total at (box_held slot) (kids_of (at n)))
  pub kids : (c : ℕ) → IsCounted at n c → IsHeldIn at slot n (seen_inputs found.inputs) c
  pub above : (c : ℕ) → IsShownIn at n c → (slot c).above ≡ above_held at slot n c
  pub outside : found.outside ≡ list_any (has_outside at slot) (kids_of (at n))

-- except for these nodes: if a child with a box, in flow or not, is marked, so is its parent; and what is held without a mark is
-- right
pub record IsSoundBut (at : ℕ → Node) (slot : ℕ → Slot) (but : ℕ → Bool) : Type 0 where
  pub marks : (p c : ℕ) → but p ≡ false → IsShownIn at p c → (slot c).marked ≡ true → (slot p).marked ≡ true
  pub right : (n : ℕ) (found : Found) → but n ≡ false → (slot n).marked ≡ false → (slot n).found ≡ Some found → IsRight at slot n found

abbrev pub IsSound : (ℕ → Node) → (ℕ → Slot) → Type 0
IsSound at slot = IsSoundBut at slot (λ n. false)

-- each node in the tree of a root element has a slot
abbrev pub HasSlots : (ℕ → Node) → ℕ → ℕ → Type 0
HasSlots at root count = (n : ℕ) → is_in_path at root n ≡ true → n < count

-- what is kept is consistent with the tree, and has slots for a root element and all that is in it
pub record IsReady (at : ℕ → Node) (root : ℕ) (kept : List Slot) : Type 0 where
  pub slots : HasSlots at root (length kept)
  pub sound : IsSound at (slot_in kept)
