-- What is kept of the boxes of a page. That boxes are kept, and when they are computed, is this project's own.
use Rattle.std.specs.Prelude.{◌≡◌, ◌≤◌, ℕ, Bool, true, false, List, length, Some, None, is_some}
use Rattle.layout_model.specs.Boxes.{Inputs, box_in}
use Rattle.page_model.specs.World.{Screen, Tree}
use Rattle.page_model.specs.Documents.{nodes_of}
use Rattle.page_model.specs.PageBoxes.{inputs_of}
use Rattle.kept_layout.specs.declared.slots.Slot.{Slot}
use Rattle.kept_layout.specs.Slots.{slot_in, held_in}
use Rattle.kept_layout.specs.Sound.{IsSound}
use Rattle.kept_layout.specs.Due.{is_due as is_due_with, due_count as due_count_with}

-- what is kept is consistent with the elements of a page: each has its slot, and nothing is held for elements that aren't made
-- yet
pub record AreKept (tree : Tree) (kept : List Slot) : Type 0 where
  pub slots : length tree.elements ≤ length kept
  pub sound : IsSound (nodes_of tree) (slot_in kept)
  pub unmade : (n : ℕ) → length tree.elements ≤ n → (slot_in kept n).found ≡ None

-- which elements are due, and how many, for a `top` with this screen
abbrev pub is_due : Tree → Screen → List Slot → ℕ → Bool
is_due tree screen kept = is_due_with (inputs_of tree screen) (slot_in kept)

abbrev pub due_count : Tree → Screen → List Slot → ℕ
due_count tree screen kept = due_count_with (inputs_of tree screen) (slot_in kept) (length kept)

-- a computation sets no mark and drops no box
pub record FillsOnly (old new : List Slot) : Type 0 where
  pub marks : (n : ℕ) → (slot_in old n).marked ≡ false → (slot_in new n).marked ≡ false
  pub found : (n : ℕ) → is_some (slot_in old n).found ≡ true → is_some (slot_in new n).found ≡ true

-- a computation writes no slot of an element without a box
abbrev pub LeavesUnboxed : Tree → Screen → List Slot → List Slot → Type 0
LeavesUnboxed tree screen old new = (n : ℕ) → inputs_of tree screen n ≡ None → slot_in new n ≡ slot_in old n

-- what is held for each element that has a box and isn't due is that box as it is now
abbrev pub IsExact : Tree → Screen → List Slot → Type 0
IsExact tree screen kept =
    (n : ℕ) (inputs : Inputs) → inputs_of tree screen n ≡ Some inputs → is_due tree screen kept n ≡ false → held_in kept n ≡ Some (box_in (nodes_of tree) inputs n)
