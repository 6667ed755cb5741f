-- Small pages, computed: their boxes and places are the expected numbers.
use Rattle.std.specs.Prelude.{◌≡◌, refl, ℕ, ◌*◌, true, Option, Some, None, List, [], ◌∷◌, pos, neg_ℤ, unwrap_or, slice_get, option_map}
use Rattle.px_units.specs.Lengths.{Pixels, Percentage, InsetPixels}
use Rattle.layout_model.specs.Styles.{Style, Declaration, first_style, declared, BorderBox, SetWidth, SetHeight, SetMinHeight, SetMargin, SetPadding, SetBorder, SetBoxSizing, SetOverflow, SetPosition, SetTop, SetRight, LeftSide, TopSide, AllSides, OverflowHidden, StaticPosition, RelativePosition, AbsolutePosition}
use Rattle.layout_model.specs.Items.{BlockKind}
use Rattle.layout_model.specs.Nodes.{Node, missing_node, depth_of}
use Rattle.layout_model.specs.Boxes.{Inputs, content_size, border_size, content_corner, box_of_node}
use Rattle.layout_model.specs.Views.{View}
use Rattle.layout_model.specs.Reach.{range_of}
use Rattle.layout_model.specs.Places.{place_in}

-- the nodes of a list, in order from number 0
abbrev nodes : List Node → ℕ → Node
nodes list n = unwrap_or (slice_get list n) missing_node

abbrev styled : List Declaration → Style
styled [] = first_style
styled (d ∷ ds) = declared d (styled ds)

abbrev block : List Declaration → Option ℕ → List ℕ → Node
block declarations parent children =
    record { item = record { style = styled declarations; kind = BlockKind }; parent = parent; children = children }

-- a viewport of 800 by 600 pixels
abbrev screen : Inputs
screen = record { width = 51200; height = Some 38400; flow = true }

abbrev view : View
view = record { root = Some 0; width = 51200; height = 38400; scrolled = (0, 0) }

-- a root element with two blocks of 10 and 20 pixels, the second with margins of 5 pixels
abbrev three : ℕ → Node
three =
    nodes
    (block [] None (1 ∷ 2 ∷ []) ∷
    block (SetHeight (Pixels 640) ∷ []) (Some 0) [] ∷
    block (SetHeight (Pixels 1280) ∷ SetMargin AllSides (Pixels 320) ∷ []) (Some 0) [] ∷ [])

three_root : option_map content_size (box_of_node three 0 screen 0) ≡ Some (800 * 64, 40 * 64)
unfolding box_of_node
three_root = refl

three_first : option_map border_size (box_of_node three 0 screen 1) ≡ Some (800 * 64, 10 * 64)
unfolding box_of_node
three_first = refl

three_second : option_map border_size (box_of_node three 0 screen 2) ≡ Some (790 * 64, 20 * 64)
unfolding box_of_node
three_second = refl

three_place : place_in three (λ n. (0, 0)) view 2 ≡ (pos (5 * 64), pos (15 * 64))
unfolding place_in
three_place = refl

-- each of 10000 percent of the width around it, so that the fourth meets the largest length
abbrev wide : ℕ → Node
wide =
    nodes
    (block (SetWidth (Percentage 1000000) ∷ []) None (1 ∷ []) ∷
    block (SetWidth (Percentage 1000000) ∷ []) (Some 0) (2 ∷ []) ∷
    block (SetWidth (Percentage 1000000) ∷ []) (Some 1) (3 ∷ []) ∷
    block (SetWidth (Percentage 1000000) ∷ []) (Some 2) [] ∷ [])

wide_second : option_map border_size (box_of_node wide 0 screen 1) ≡ Some (8000000 * 64, 0)
unfolding box_of_node
wide_second = refl

wide_fourth : option_map border_size (box_of_node wide 0 screen 3) ≡ Some (2147483647, 0)
unfolding box_of_node
wide_fourth = refl

-- a root element of half the viewport's width, of border boxes, with paddings of 10 and 5 percent and a border of 2 pixels,
-- and in it an element of half a height that is not definite, at least 10 pixels
abbrev percents : ℕ → Node
percents =
    nodes
    (block (SetWidth (Percentage 5000) ∷ SetBoxSizing BorderBox ∷ SetPadding LeftSide (Percentage 1000) ∷ SetPadding TopSide (Percentage 500) ∷ SetBorder LeftSide 128 ∷ []) None (1 ∷ []) ∷
    block (SetHeight (Percentage 5000) ∷ SetMinHeight (Pixels 640) ∷ []) (Some 0) [] ∷ [])

root_content : option_map content_size (box_of_node percents 0 screen 0) ≡ Some (318 * 64, 10 * 64)
unfolding box_of_node
root_content = refl

root_corner : option_map content_corner (box_of_node percents 0 screen 0) ≡ Some (80 * 64, 40 * 64)
unfolding box_of_node
root_corner = refl

root_border : option_map border_size (box_of_node percents 0 screen 0) ≡ Some (400 * 64, 50 * 64)
unfolding box_of_node
root_border = refl

inner_border : option_map border_size (box_of_node percents 0 screen 1) ≡ Some (318 * 64, 10 * 64)
unfolding box_of_node
inner_border = refl

-- a block of 100 pixels that scrolls, with 300 and then 10 pixels in it, so its range is 210
abbrev scrolling : ℕ → Node
scrolling =
    nodes
    (block [] None (1 ∷ []) ∷
    block (SetHeight (Pixels 6400) ∷ SetOverflow OverflowHidden ∷ []) (Some 0) (2 ∷ 3 ∷ []) ∷
    block (SetHeight (Pixels 19200) ∷ []) (Some 1) [] ∷ block (SetHeight (Pixels 640) ∷ []) (Some 1) [] ∷ [])

abbrev scrolled : ℕ → ℕ × ℕ
scrolled n = (0, 250 * 64)

scrolling_range : range_of scrolling view 1 ≡ (0, 210 * 64)
unfolding range_of
scrolling_range = refl

scrolled_place : place_in scrolling scrolled view 3 ≡ (pos 0, pos (90 * 64))
unfolding place_in
scrolled_place = refl

scrolled_out : place_in scrolling scrolled view 2 ≡ (pos 0, neg_ℤ (pos (210 * 64)))
unfolding place_in
scrolled_out = refl

depth : depth_of scrolling 3 ≡ 3
unfolding depth_of
depth = refl

-- in a block of 100 pixels with a margin of 100 pixels on the left, a box out of flow of half the width of what holds it
abbrev overlaid : Declaration → ℕ → Node
overlaid position =
    nodes
    (block [] None (1 ∷ []) ∷
    block (position ∷ SetHeight (Pixels 6400) ∷ SetMargin LeftSide (Pixels 6400) ∷ []) (Some 0) (2 ∷ []) ∷
    block (SetPosition AbsolutePosition ∷ SetRight (InsetPixels (pos 640)) ∷ SetTop (InsetPixels (pos 1280)) ∷ SetWidth (Percentage 5000) ∷ SetHeight (Pixels 1920) ∷ []) (Some 1) [] ∷ [])

-- the block holds it where it is positioned, else the page
held_size : option_map border_size (box_of_node (overlaid (SetPosition RelativePosition)) 0 screen 2) ≡ Some (350 * 64, 30 * 64)
unfolding box_of_node
held_size = refl

held_place : place_in (overlaid (SetPosition RelativePosition)) (λ n. (0, 0)) view 2 ≡ (pos (440 * 64), pos (20 * 64))
unfolding place_in
held_place = refl

page_size : option_map border_size (box_of_node (overlaid (SetPosition StaticPosition)) 0 screen 2) ≡ Some (400 * 64, 30 * 64)
unfolding box_of_node
page_size = refl

page_place : place_in (overlaid (SetPosition StaticPosition)) (λ n. (0, 0)) view 2 ≡ (pos (390 * 64), pos (20 * 64))
unfolding place_in
page_place = refl

-- out of flow, it adds no height
block_size : option_map border_size (box_of_node (overlaid (SetPosition RelativePosition)) 0 screen 0) ≡ Some (800 * 64, 100 * 64)
unfolding box_of_node
block_size = refl
