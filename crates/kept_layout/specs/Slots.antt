-- What is kept for the nodes of a tree, by their numbers.
use Rattle.std.specs.Prelude.{ℕ, suc, ◌-◌, ◌++◌, Bool, true, false, List, length, Option, None, option_map, unwrap_or, slice_get, replicate}
use Rattle.layout_model.specs.Boxes.{Box}
use Rattle.kept_layout.specs.declared.slots.Slot.{Slot}

abbrev pub no_slot : Slot
no_slot = record { marked = false; above = 0; found = None }

-- what is kept for a node, an empty slot if none was made for it
abbrev pub slot_in : List Slot → ℕ → Slot
slot_in slots n = unwrap_or (slice_get slots n) no_slot

-- the slots extended by empty ones up to that of a node
abbrev pub with_slot : ℕ → List Slot → List Slot
with_slot n slots = slots ++ replicate (suc n - length slots) no_slot

-- the box that is held for a node
abbrev pub held_in : List Slot → ℕ → Option Box
held_in slots n = option_map (λ found. found.own) (slot_in slots n).found

-- a slot, marked if this is true
abbrev pub marked_if : Bool → Slot → Slot
marked_if true slot = record slot { marked = true }
marked_if false slot = slot
