-- Which boxes are to be computed, now or again. That boxes are kept, and when they are computed, is this project's own.
use Rattle.std.specs.Prelude.{ℕ, zero, suc, ◌+◌, ◌==◌, Bool, true, false, ◌&&◌, ◌||◌, not, Option, Some, None}
use Rattle.layout_model.specs.Boxes.{Inputs}
use Rattle.block_layout.specs.Seen.{seen_inputs}
use Rattle.kept_layout.specs.declared.slots.Slot.{Slot}
use Rattle.kept_layout.specs.declared.slots.Found.{Found}

abbrev pub same_height : Option ℕ → Option ℕ → Bool
same_height None None = true
same_height None (Some other) = false
same_height (Some height) None = false
same_height (Some height) (Some other) = height == other

abbrev pub same_flow : Bool → Bool → Bool
same_flow true other = other
same_flow false other = not other

abbrev pub same_inputs : Inputs → Inputs → Bool
same_inputs inputs others =
    inputs.width == others.width && same_height inputs.height others.height && same_flow inputs.flow others.flow

abbrev pub is_held_at : Inputs → Option Found → Bool
is_held_at inputs None = false
is_held_at inputs (Some found) = same_inputs (seen_inputs found.inputs) inputs

-- given the inputs of a node, none if it has no box: it is due if it has a box, and nothing is held yet, or its slot is marked,
-- or what is held was computed from other inputs
abbrev pub is_due_at : Option Inputs → Slot → Bool
is_due_at None slot = false
is_due_at (Some inputs) slot = slot.marked || not (is_held_at inputs slot.found)

abbrev pub is_due : (ℕ → Option Inputs) → (ℕ → Slot) → ℕ → Bool
is_due inputs slot n = is_due_at (inputs n) (slot n)

abbrev pub one_if : Bool → ℕ
one_if true = 1
one_if false = 0

-- the number of nodes below this number that are due
unfoldable pub due_count : (ℕ → Option Inputs) → (ℕ → Slot) → ℕ → ℕ
due_count inputs slot zero = 0
due_count inputs slot (suc n) = due_count inputs slot n + one_if (is_due inputs slot n)
