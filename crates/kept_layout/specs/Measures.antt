-- What is measured of the boxes that are held.
use Rattle.std.specs.Prelude.{ℕ, Bool, not, ◌&&◌, cond, true, Option, Some, None, option_map, ◌≤◌}
use Rattle.px_units.specs.Lengths.{cap}
use Rattle.layout_model.specs.Nodes.{Node}
use Rattle.layout_model.specs.Boxes.{Inputs, Box, inner_corner, padding_corner, margin_height, padding_size, border_size}
use Rattle.layout_model.specs.Clips.{is_block, clips}
use Rattle.layout_model.specs.Views.{View}
use Rattle.block_layout.specs.Seen.{seen_inputs}
use Rattle.positioned_layout.specs.Measured.{Measured}
use Rattle.kept_layout.specs.declared.slots.Slot.{Slot}
use Rattle.kept_layout.specs.declared.slots.Found.{Found}

-- a viewport whose width and height don't exceed the largest length
pub record IsSized (view : View) : Type 0 where
  pub width : view.width ≤ 2147483647
  pub height : view.height ≤ 2147483647

-- given its parent: a root element needs no block around it, and nothing is stacked above it
abbrev pub is_inside : (ℕ → Node) → Option ℕ → Bool
is_inside at None = true
is_inside at (Some p) = is_block ((at p).item.kind)

abbrev pub above_kept : ℕ → Option ℕ → ℕ
above_kept above None = 0
above_kept above (Some p) = cap above

-- whether a node has a box if its parent has one
abbrev pub takes_part : (ℕ → Node) → ℕ → Bool
takes_part at n = not (at n).item.style.hidden && is_inside at (at n).parent

-- lengths are capped at the largest one; those of boxes in a viewport of such a size don't exceed it
abbrev pub measured_of : Inputs → Box → ℕ → Bool → Measured
measured_of inputs box above clips = record {
  width = cap inputs.width;
  height = option_map cap inputs.height;
  inner = inner_corner box;
  corner = padding_corner box;
  margin = (box.margin.left, box.margin.top);
  margin_height = margin_height box;
  above = above;
  padding = padding_size box;
  border = border_size box;
  clips = clips;
}

abbrev pub measured_found : ℕ → Bool → Found → Measured
measured_found above clips found = measured_of (seen_inputs found.inputs) found.own above clips

-- the measures of a node that takes part, none of another one
abbrev pub measured_in : (ℕ → Node) → (ℕ → Slot) → ℕ → Option Measured
measured_in at slot n =
    cond (takes_part at n) (option_map (measured_found (above_kept (slot n).above (at n).parent) (clips (at n))) (slot n).found) None
