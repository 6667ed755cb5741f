-- What is written into a slot.
use Rattle.std.specs.Prelude.{ℕ, Bool, false, Some}
use Rattle.layout_model.specs.Boxes.{Box}
use Rattle.block_layout.specs.declared.Inputs.{Inputs}
use Rattle.kept_layout.specs.declared.slots.Slot.{Slot}

-- the slot with this height stacked above its node
abbrev pub with_above : ℕ → Slot → Slot
with_above above slot = record slot { above = above }

-- the slot after a box that was computed from these inputs was put into it
abbrev pub holding : Box → Inputs → Bool → Slot → Slot
holding own inputs outside slot = record { marked = false; above = slot.above; found = Some (record { own = own; inputs = inputs; outside = outside }) }
