-- The positions of border boxes in their document when nothing is scrolled (CSS 2.2, 9.4 and 10; CSS Positioned Layout 3, 2 and 3).
-- All numbers are units of 1/64 pixel, x to the right and y downwards.
use Rattle.std.specs.Prelude.{ℕ, zero, suc, cond, ◌==◌, Option, Some, None, List, [], ◌∷◌, sum_by, ℤ, pos, neg_ℤ, ◌+ℤ◌, ◌-ℤ◌, unwrap_or}
use Rattle.px_units.specs.Lengths.{cap, clamped}
use Rattle.layout_model.specs.Styles.{Sides, Position, StaticPosition, RelativePosition, AbsolutePosition, FixedPosition}
use Rattle.layout_model.specs.Items.{Item}
use Rattle.layout_model.specs.Nodes.{Node, levels, position_of, Holder, HeldByElement, HeldByPage, HeldByScreen, holder}
use Rattle.layout_model.specs.Boxes.{Inputs, Box, used_side, used_insets, computed, child_inputs, kids_of, counted, box_in, border_width, border_height, inner_corner}
use Rattle.layout_model.specs.Views.{View, inputs_under}
use Rattle.layout_model.specs.Points.{plus, capped, moved}

-- the left and top margins
unfoldable pub margin_corner : Inputs → Item → ℕ × ℕ
margin_corner inputs item =
    capped (used_side (inputs.width) (item.style.margin.left), used_side (inputs.width) (item.style.margin.top))

-- the children before the first occurrence of a node
unfoldable pub before : ℕ → List ℕ → List ℕ
before n [] = []
before n (c ∷ cs) = cond (c == n) [] (c ∷ before n cs)

-- the sum of the heights stacked above a child, with the inputs of children in flow
unfoldable pub height_above : (ℕ → Node) → Inputs → Node → ℕ → ℕ
unfolding counted box_in before
height_above at inputs parent n = sum_by (counted at (box_in at inputs)) (before n (kids_of parent))

-- the offset from the corner of a parent's border box to that of a child's, `above` being the height of the child's earlier siblings.
-- The cap, on the whole sum, is a bound of this project
abbrev pub offset_with : Box → ℕ → Inputs → Item → ℕ × ℕ
offset_with parent above inputs item =
    capped (plus (plus (inner_corner parent) (0, above)) (used_side (inputs.width) (item.style.margin.left), used_side (inputs.width) (item.style.margin.top)))

abbrev pub offset_in : (ℕ → Node) → Node → Inputs → Inputs → ℕ → ℕ × ℕ
offset_in at parent around inputs n =
    offset_with (computed (parent.item) around 0) (height_above at (child_inputs (parent.item) around) parent n) inputs ((at n).item)

abbrev pub offset_from : (ℕ → Node) → View → ℕ → Option ℕ → ℕ × ℕ
offset_from at view n None = margin_corner (inputs_under at view n) ((at n).item)
offset_from at view n (Some p) = offset_in at (at p) (inputs_under at view p) (inputs_under at view n) n

-- the offset from the corner of the parent's border box to the corner that a node's own border box has in the flow, or would have; for a
-- root element, from the corner of the viewport
unfoldable pub offset_of : (ℕ → Node) → View → ℕ → ℕ × ℕ
unfolding computed child_inputs height_above margin_corner
offset_of at view n = offset_from at view n (at n).parent

-- how far a relatively positioned box is moved along an axis: by the inset of the near side (left or top), else by that of the far side
-- (CSS 2.2, 9.4.3; CSS Positioned Layout 3, 3.3)
abbrev pub shift_by : Option ℤ → Option ℤ → ℤ
shift_by (Some near) far = near
shift_by None (Some far) = neg_ℤ far
shift_by None None = pos 0

abbrev pub shift_of : Sides (Option ℤ) → ℤ × ℤ
shift_of insets = (shift_by (insets.left) (insets.right), shift_by (insets.top) (insets.bottom))

-- a box out of flow along one axis: the size of its containing block, the insets and margins of its near and far sides, and the size of
-- its border box
pub record Along : Type 0 where
  pub containing : ℕ
  pub near : Option ℤ
  pub far : Option ℤ
  pub near_margin : ℕ
  pub far_margin : ℕ
  pub border : ℕ

abbrev pub across : Inputs → Sides (Option ℤ) → Box → Along
across inputs insets box = record {
  containing = inputs.width;
  near = insets.left;
  far = insets.right;
  near_margin = box.margin.left;
  far_margin = box.margin.right;
  border = border_width box;
}

abbrev pub down : Inputs → Sides (Option ℤ) → Box → Along
down inputs insets box = record {
  containing = unwrap_or (inputs.height) 0;
  near = insets.top;
  far = insets.bottom;
  near_margin = box.margin.top;
  far_margin = box.margin.bottom;
  border = border_height box;
}

abbrev pub inset_by : Option ℤ → Option ℤ → Along → ℤ → ℤ → ℤ
inset_by (Some near) far it corner in_flow = corner +ℤ clamped (near +ℤ pos (it.near_margin))
inset_by None (Some far) it corner in_flow =
    corner +ℤ clamped (pos (it.containing) -ℤ far -ℤ pos (it.far_margin) -ℤ pos (it.border))
inset_by None None it corner in_flow = in_flow

-- its position, with its containing block at `corner`: by the inset of the near side, else by that of the far side, else its static
-- position, where it would be in the flow (CSS 2.2, 10.3.7 and 10.6.4: static position)
abbrev pub placed_along : Along → ℤ → ℤ → ℤ
placed_along it corner in_flow = inset_by it.near it.far it corner in_flow

abbrev pub placed_by : Inputs → Sides (Option ℤ) → Box → ℤ × ℤ → ℤ × ℤ → ℤ × ℤ
placed_by inputs insets box corner in_flow =
    (placed_along (across inputs insets box) (corner.0) (in_flow.0), placed_along (down inputs insets box) (corner.1) (in_flow.1))

-- the padding box's corner in the border box
abbrev pub border_corner : Item → ℕ × ℕ
border_corner item = (cap (item.style.border.left), cap (item.style.border.top))

-- the corner of the padding box of what holds a box; for the page and the screen, the corner of the viewport
abbrev pub corner_of : (ℕ → Node) → (ℕ → ℤ × ℤ) → Holder → ℤ × ℤ
corner_of at flat (HeldByElement element) = moved (flat element) (border_corner ((at element).item))
corner_of at flat HeldByPage = (pos 0, pos 0)
corner_of at flat HeldByScreen = (pos 0, pos 0)

abbrev pub above_of : (ℕ → ℤ × ℤ) → Option ℕ → ℤ × ℤ
above_of flat None = (pos 0, pos 0)
above_of flat (Some parent) = flat parent

abbrev pub flat_by : (ℕ → Node) → (ℕ → ℤ × ℤ) → ℕ → Inputs → Sides (Option ℤ) → ℤ × ℤ → Position → ℤ × ℤ
flat_by at flat n inputs insets in_flow StaticPosition = in_flow
flat_by at flat n inputs insets in_flow RelativePosition =
    (in_flow.0 +ℤ (shift_of insets).0, in_flow.1 +ℤ (shift_of insets).1)
flat_by at flat n inputs insets in_flow AbsolutePosition =
    placed_by inputs insets (box_in at inputs n) (corner_of at flat (holder at n)) in_flow
flat_by at flat n inputs insets in_flow FixedPosition =
    placed_by inputs insets (box_in at inputs n) (corner_of at flat (holder at n)) in_flow

unfoldable pub flat_up : ℕ → (ℕ → Node) → View → ℕ → ℤ × ℤ
unfolding box_in holder offset_of
flat_up zero at view n = (pos 0, pos 0)
flat_up (suc high) at view n =
    flat_by
    at
    (flat_up high at view)
    n
    (inputs_under at view n)
    (used_insets ((at n).item.style.inset) (inputs_under at view n))
    (moved (above_of (flat_up high at view) (at n).parent) (offset_of at view n))
    (position_of (at n))

-- the place of a node's border box in its document's viewport, with all scroll offsets taken as 0: in flow it is the parent's place plus
-- the node's own offset, moved by the insets if it is relative; out of flow it is given by the insets and the containing block
unfoldable pub flat_place : (ℕ → Node) → View → ℕ → ℤ × ℤ
unfolding flat_up
flat_place at view n = flat_up levels at view n
