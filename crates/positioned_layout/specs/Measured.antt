-- The measures of boxes, and when they are those of the boxes in a view.
use Rattle.std.specs.Prelude.{◌≡◌, ℕ, Bool, true, Option, Some, None, option_map, is_some}
use Rattle.px_units.specs.Lengths.{cap}
use Rattle.layout_model.specs.Nodes.{Node, is_in_path}
use Rattle.layout_model.specs.Boxes.{Inputs, Box, child_inputs, box_in, inner_corner, padding_corner, margin_height, padding_size, border_size}
use Rattle.layout_model.specs.Clips.{clips}
use Rattle.layout_model.specs.Views.{View, inputs_under, inputs_in_view}
use Rattle.layout_model.specs.FlatPlaces.{height_above}

pub record Measured : Type 0 where
  pub width : ℕ
  pub height : Option ℕ
  pub inner : ℕ × ℕ
  pub corner : ℕ × ℕ
  pub margin : ℕ × ℕ
  pub margin_height : ℕ
  pub above : ℕ
  pub padding : ℕ × ℕ
  pub border : ℕ × ℕ
  pub clips : Bool

-- the heights that are stacked above a node in its parent, none above a root element
abbrev pub above_in : (ℕ → Node) → View → ℕ → Option ℕ → ℕ
above_in at view n None = 0
above_in at view n (Some p) = cap (height_above at (child_inputs ((at p).item) (inputs_under at view p)) (at p) n)

abbrev pub measured_with : (ℕ → Node) → View → ℕ → Inputs → Box → Measured
measured_with at view n inputs box = record {
  width = inputs.width;
  height = inputs.height;
  inner = inner_corner box;
  corner = padding_corner box;
  margin = (box.margin.left, box.margin.top);
  margin_height = margin_height box;
  above = above_in at view n (at n).parent;
  padding = padding_size box;
  border = border_size box;
  clips = clips (at n);
}

-- given its parent: the root element of the view, or a node whose parent has a box
abbrev pub is_come_to : (ℕ → Node) → View → ℕ → Option ℕ → Type 0
is_come_to at view n None = view.root ≡ Some n
is_come_to at view n (Some p) = is_some (inputs_in_view at view p) ≡ true

-- a node that a walk visits
abbrev pub IsComeTo : (ℕ → Node) → View → ℕ → Type 0
IsComeTo at view n = is_come_to at view n (at n).parent

-- the measure of a node's box in a view, none exactly if it has no box
abbrev pub IsMeasureOf : (ℕ → Node) → View → ℕ → Option Measured → Type 0
IsMeasureOf at view n measured = measured ≡ option_map (λ inputs. measured_with at view n inputs (box_in at inputs n)) (inputs_in_view at view n)

-- the same for each node that a walk visits
abbrev pub AreMeasuresOf : (ℕ → Node) → View → (ℕ → Option Measured) → Type 0
AreMeasuresOf at view measured = (n : ℕ) → IsComeTo at view n → IsMeasureOf at view n (measured n)

-- the same for a node and its ancestors, on which its place depends, since whatever holds a box is an ancestor
abbrev pub AreMeasuresUp : (ℕ → Node) → View → ℕ → (ℕ → Option Measured) → Type 0
AreMeasuresUp at view n measured = (m : ℕ) → is_in_path at m n ≡ true → IsMeasureOf at view m (measured m)

-- the same for a node that has a box
abbrev pub IsMeasuredAt : (ℕ → Node) → View → ℕ → Measured → Type 0
IsMeasuredAt at view n measured = measured ≡ measured_with at view n (inputs_under at view n) (box_in at (inputs_under at view n) n)
