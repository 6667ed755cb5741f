-- Boxes of block layout (CSS 2.2, 8 to 10; CSS Positioned Layout 3). All numbers are units of 1/64 pixel.
use Rattle.std.specs.Prelude.{ℕ, zero, suc, ◌+◌, ◌-◌, min, max, ℤ, pos, ◌-ℤ◌, Bool, true, false, not, ◌&&◌, ◌||◌, cond, ◌==◌, Option, Some, None, option_map, unwrap_or, option_and_then, is_some, List, [], ◌∷◌, sum_by}
use Rattle.px_units.specs.Lengths.{LengthValue, Automatic, Pixels, Percentage, InsetValue, cap, resolved, inset_against, at_least_zero}
use Rattle.layout_model.specs.Styles.{Sides, BoxSizing, ContentBox, BorderBox}
use Rattle.layout_model.specs.Items.{Item, Kind, BlockKind, ImageKind, FrameKind}
use Rattle.layout_model.specs.Nodes.{Node, levels, path_of, is_in_flow, Holder, HeldByElement, HeldByPage, HeldByScreen, holder}
use Rattle.layout_model.specs.Clips.{is_block}

-- what a box takes from its containing block: the width, and the height if it is definite (10.1, 10.5); and whether the box is in flow
pub record Inputs : Type 0 where
  pub width : ℕ
  pub height : Option ℕ
  pub flow : Bool

-- the used content width and height, margins, borders and paddings
pub record Box : Type 0 where
  pub width : ℕ
  pub height : ℕ
  pub margin : Sides ℕ
  pub border : Sides ℕ
  pub padding : Sides ℕ

-- the sizes of the content, padding and border boxes, each as a width and a height, and the corners of the inner ones (8.1)
abbrev pub content_size : Box → ℕ × ℕ
content_size box = (box.width, box.height)

abbrev pub padding_width : Box → ℕ
padding_width box = box.padding.left + box.width + box.padding.right

abbrev pub padding_height : Box → ℕ
padding_height box = box.padding.top + box.height + box.padding.bottom

abbrev pub padding_size : Box → ℕ × ℕ
padding_size box = (padding_width box, padding_height box)

abbrev pub border_width : Box → ℕ
border_width box = box.border.left + padding_width box + box.border.right

abbrev pub border_height : Box → ℕ
border_height box = box.border.top + padding_height box + box.border.bottom

abbrev pub border_size : Box → ℕ × ℕ
border_size box = (border_width box, border_height box)

abbrev pub margin_height : Box → ℕ
margin_height box = box.margin.top + border_height box + box.margin.bottom

-- the content box's corner, relative to that of the padding box
abbrev pub content_corner : Box → ℕ × ℕ
content_corner box = (box.padding.left, box.padding.top)

-- the padding box's corner, relative to that of the border box
abbrev pub padding_corner : Box → ℕ × ℕ
padding_corner box = (box.border.left, box.border.top)

-- the content box's corner, relative to that of the border box
abbrev pub inner_corner : Box → ℕ × ℕ
inner_corner box = (box.border.left + box.padding.left, box.border.top + box.padding.top)

abbrev pub on_sides : {A B : Type 0} → (A → B) → Sides A → Sides B
on_sides f sides = record { top = f (sides.top); right = f (sides.right); bottom = f (sides.bottom); left = f (sides.left) }

-- percentages of margins and paddings, the vertical ones too, refer to the width of the containing block (8.3, 8.4). None of them is
-- `auto`, since no declaration of the product can set such a value
abbrev pub used_side : ℕ → LengthValue → ℕ
used_side width value = unwrap_or (resolved value width) 0

-- a length resolved against a basis that may be indefinite; without a basis a percentage gives None
abbrev pub against : LengthValue → Option ℕ → Option ℕ
against Automatic basis = None
against (Pixels units) basis = Some (cap units)
against (Percentage hundredths) basis = option_and_then (resolved (Percentage hundredths)) basis

-- the used insets, None for `auto` and for a percentage without a basis (CSS Positioned Layout 3, 3.1)
abbrev pub used_insets : Sides InsetValue → Inputs → Sides (Option ℤ)
used_insets inset inputs = record {
  top = inset_against (inset.top) (inputs.height);
  right = inset_against (inset.right) (Some (inputs.width));
  bottom = inset_against (inset.bottom) (inputs.height);
  left = inset_against (inset.left) (Some (inputs.width));
}

-- the content size for a size that is that of the content box or of the border box, as `box-sizing` says (CSS Box Sizing 3, 3.3)
abbrev pub inner : BoxSizing → ℕ → ℕ → ℕ
inner ContentBox edges size = size
inner BorderBox edges size = size - edges

abbrev pub at_most : Option ℕ → ℕ → ℕ
at_most None size = size
at_most (Some most) size = min size most

abbrev pub at_least : Option ℕ → ℕ → ℕ
at_least None size = size
at_least (Some least) size = max size least

-- the maximum is applied first, then the minimum (10.4, 10.7). The cap is a bound of this project
abbrev pub limited : Option ℕ → Option ℕ → ℕ → ℕ
limited most least size = cap (at_least least (at_most most size))

-- the used content size along an axis, `edges` being the borders and paddings of both sides. Without a basis a percentage counts as
-- `auto`, as a maximum it counts as `none`, and as a minimum as 0 (10.2, 10.4, 10.5, 10.7)
abbrev pub used_along : BoxSizing → ℕ → Option ℕ → LengthValue → LengthValue → Option LengthValue → ℕ → ℕ
used_along sizing edges basis size least most automatic =
    limited
    (option_map (inner sizing edges) (option_and_then (λ value. against value basis) most))
    (option_map (inner sizing edges) (against least basis))
    (unwrap_or (option_map (inner sizing edges) (against size basis)) automatic)

-- what is left of a containing block's size between the insets on both sides, less the margins, borders and paddings of both sides
abbrev pub left_between : ℕ → Option ℤ → Option ℤ → ℕ → ℕ
left_between containing one other around =
    at_least_zero (pos containing -ℤ unwrap_or one (pos 0) -ℤ unwrap_or other (pos 0) -ℤ pos around)

-- the `auto` width of a block: in flow it fills the width of its containing block; out of flow it fills the width between its insets,
-- of which `auto` counts as 0 (10.3.3, 10.3.7). That it does so if not both insets are given, and isn't shrunk to fit, is this
-- project's own
abbrev pub block_width : Inputs → Sides (Option ℤ) → ℕ → ℕ
block_width inputs insets around =
    cond (inputs.flow) (inputs.width - around) (left_between (inputs.width) (insets.left) (insets.right) around)

-- a block out of flow with both a top and a bottom inset fills the height of its containing block between them; any other block is as
-- high as what is stacked in it (10.6.3, 10.6.4)
abbrev pub is_stretched : Inputs → Sides (Option ℤ) → Bool
is_stretched inputs insets = not (inputs.flow) && is_some (insets.top) && is_some (insets.bottom)

abbrev pub block_height : Inputs → Sides (Option ℤ) → ℕ → ℕ → ℕ
block_height inputs insets inside around =
    cond (is_stretched inputs insets) (left_between (unwrap_or (inputs.height) 0) (insets.top) (insets.bottom) around) inside

-- images have their natural size, and frames are 300 by 150 pixels (10.3.2, 10.6.2). No margin is `auto`; one that 10.3.3 ignores
-- because the values are over-constrained keeps its value here, which moves no box
abbrev pub automatic_width : Kind → Inputs → Sides (Option ℤ) → ℕ → ℕ
automatic_width BlockKind inputs insets around = block_width inputs insets around
automatic_width (ImageKind width height) inputs insets around = width
automatic_width FrameKind inputs insets around = 19200

abbrev pub automatic_height : Kind → Inputs → Sides (Option ℤ) → ℕ → ℕ → ℕ
automatic_height BlockKind inputs insets inside around = block_height inputs insets inside around
automatic_height (ImageKind width height) inputs insets inside around = height
automatic_height FrameKind inputs insets inside around = 9600

abbrev pub used_width : Item → Inputs → Sides ℕ → Sides ℕ → Sides ℕ → ℕ
used_width item inputs margin border padding =
    used_along
    (item.style.box_sizing)
    (border.left + padding.left + padding.right + border.right)
    (Some (inputs.width))
    (item.style.width)
    (item.style.min_width)
    (item.style.max_width)
    (automatic_width
    (item.kind)
    inputs
    (used_insets (item.style.inset) inputs)
    (margin.left + border.left + padding.left + padding.right + border.right + margin.right))

abbrev pub used_height : Item → Inputs → ℕ → Sides ℕ → Sides ℕ → Sides ℕ → ℕ
used_height item inputs inside margin border padding =
    used_along
    (item.style.box_sizing)
    (border.top + padding.top + padding.bottom + border.bottom)
    (inputs.height)
    (item.style.height)
    (item.style.min_height)
    (item.style.max_height)
    (automatic_height
    (item.kind)
    inputs
    (used_insets (item.style.inset) inputs)
    inside
    (margin.top + border.top + padding.top + padding.bottom + border.bottom + margin.bottom))

abbrev pub box_with : Item → Inputs → ℕ → Sides ℕ → Sides ℕ → Sides ℕ → Box
box_with item inputs inside margin border padding =
    record {
      width = used_width item inputs margin border padding;
      height = used_height item inputs inside margin border padding;
      margin = margin;
      border = border;
      padding = padding;
    }

-- the box of an element with these inputs, `inside` being the sum of its children's margin box heights
unfoldable pub computed : Item → Inputs → ℕ → Box
computed item inputs inside =
    box_with
    item
    inputs
    inside
    (on_sides (used_side (inputs.width)) (item.style.margin))
    (on_sides cap (item.style.border))
    (on_sides (used_side (inputs.width)) (item.style.padding))

-- whether the height doesn't depend on what is stacked in the box: it is given in pixels, or as a percentage of a definite height, or
-- results from the insets (10.5, 10.6.4)
abbrev pub has_definite_height : Item → Inputs → Bool
has_definite_height item inputs =
    is_some (against (item.style.height) (inputs.height)) || is_stretched inputs (used_insets (item.style.inset) inputs)

abbrev pub inputs_inside : Item → Inputs → Box → Inputs
inputs_inside item inputs box =
    record { width = box.width; height = cond (has_definite_height item inputs) (Some (box.height)) None; flow = true }

-- the inputs of an element's children in flow: its content width, and its content height if that is definite (10.1, 10.5)
unfoldable pub child_inputs : Item → Inputs → Inputs
unfolding computed
child_inputs item inputs = inputs_inside item inputs (computed item inputs 0)

-- only the children of blocks have boxes
abbrev pub inner_children : Kind → List ℕ → List ℕ
inner_children BlockKind children = children
inner_children (ImageKind width height) children = []
inner_children FrameKind children = []

abbrev pub kids_of : Node → List ℕ
kids_of node = inner_children (node.item.kind) (node.children)

abbrev pub shown_height : (ℕ → Box) → ℕ → Bool → ℕ
shown_height box child true = 0
shown_height box child false = margin_height (box child)

-- whether a child isn't stacked in its parent: it has no box, or is out of flow
abbrev pub is_passed : Node → Bool
is_passed node = node.item.style.hidden || not (is_in_flow node)

-- what a child adds to its parent's height
unfoldable pub counted : (ℕ → Node) → (ℕ → Box) → ℕ → ℕ
counted at box child = shown_height box child (is_passed (at child))

-- boxes are stacked from top to bottom, and margins don't collapse (10.6.3 without 8.3.1)
unfoldable pub total : (ℕ → Node) → (ℕ → Box) → List ℕ → ℕ
unfolding counted
total at box children = cap (sum_by (counted at box) children)

unfoldable pub box_at : (ℕ → Node) → (Inputs → ℕ → Box) → Inputs → Node → Box
unfolding computed child_inputs total
box_at at below inputs node =
    computed (node.item) inputs (total at (below (child_inputs (node.item) inputs)) (kids_of node))

unfoldable pub box_down : ℕ → (ℕ → Node) → Inputs → ℕ → Box
unfolding computed box_at
box_down zero at inputs n = computed ((at n).item) inputs 0
box_down (suc deep) at inputs n = box_at at (box_down deep at) inputs (at n)

-- the box of a node with these inputs, computed with everything in it
unfoldable pub box_in : (ℕ → Node) → Inputs → ℕ → Box
unfolding box_down
box_in at inputs n = box_down levels at inputs n

-- the inputs of a node out of flow that an element's box holds: the size of that box's padding box (10.1)
abbrev pub inputs_held : Box → Inputs
inputs_held box = record { width = cap (padding_width box); height = Some (cap (padding_height box)); flow = false }

abbrev pub inputs_by_element : (ℕ → Node) → ℕ → Inputs → Bool → Inputs
inputs_by_element at element inputs true = child_inputs ((at element).item) inputs
inputs_by_element at element inputs false = inputs_held (box_in at inputs element)

abbrev pub inputs_by : (ℕ → Node) → Inputs → (ℕ → Inputs) → Bool → Holder → Inputs
inputs_by at viewport above flow (HeldByElement element) = inputs_by_element at element (above element) flow
inputs_by at viewport above flow HeldByPage = record viewport { flow = flow }
inputs_by at viewport above flow HeldByScreen = record viewport { flow = flow }

unfoldable pub inputs_up : ℕ → (ℕ → Node) → Inputs → ℕ → Inputs
unfolding child_inputs box_in holder
inputs_up zero at viewport n = viewport
inputs_up (suc high) at viewport n = inputs_by at viewport (inputs_up high at viewport) (is_in_flow (at n)) (holder at n)

-- the inputs of a node in a viewport, provided that it has a box: those from its containing block (10.1). The page and the screen have
-- the size of the viewport
unfoldable pub inputs_at : (ℕ → Node) → Inputs → ℕ → Inputs
unfolding inputs_up
inputs_at at viewport n = inputs_up levels at viewport n

abbrev pub is_box_under : (ℕ → Node) → ℕ → ℕ → List ℕ → Bool → Bool
is_box_under at root n [] boxed = n == root
is_box_under at root n (parent ∷ above) boxed = is_block ((at parent).item.kind) && boxed

unfoldable pub has_box_along : (ℕ → Node) → ℕ → List ℕ → Bool
has_box_along at root [] = false
has_box_along at root (n ∷ above) =
    not ((at n).item.style.hidden) && is_box_under at root n above (has_box_along at root above)

-- whether a node has a box in the tree of a root element: neither it nor an ancestor has `display: none`, and each ancestor is a block
-- (9.2.4)
unfoldable pub has_box_in : (ℕ → Node) → ℕ → ℕ → Bool
unfolding has_box_along path_of
has_box_in at root n = has_box_along at root (path_of at n)

-- the inputs of a node in that tree, None if it has no box
unfoldable pub inputs_in : (ℕ → Node) → ℕ → Inputs → ℕ → Option Inputs
unfolding inputs_at has_box_in
inputs_in at root viewport n = cond (has_box_in at root n) (Some (inputs_at at viewport n)) None

-- the box of a node in that tree, if it has one
unfoldable pub box_of_node : (ℕ → Node) → ℕ → Inputs → ℕ → Option Box
unfolding inputs_in box_in
box_of_node at root viewport n = option_map (λ inputs. box_in at inputs n) (inputs_in at root viewport n)
