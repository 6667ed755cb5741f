-- Boxes, places and scroll offsets of a page, computed from its whole tree as it is when they are read (CSS 2.2, 8 to 11, with the
-- content box of a frame as the viewport of its document; CSSOM View, 4 to 6). A box depends on the tree and on the screen that the top
-- document is shown on, a place on the scroll positions too. All numbers are units of 1/64 pixel.
use Rattle.std.specs.Prelude.{ℕ, zero, suc, ℤ, pos, Bool, true, false, ◌&&◌, ◌+◌, ◌*◌, ◌/◌, Option, Some, None, option_map, unwrap_or, is_some}
use Rattle.px_units.specs.declared.BoxKind.{BoxKind}
use Rattle.px_units.specs.declared.BoxKind.TheVariants.{Content, Border, Device}
use Rattle.px_units.specs.declared.Point.{Point}
use Rattle.layout_model.specs.Boxes.{Inputs, Box, box_in, content_size, content_corner, border_size}
use Rattle.layout_model.specs.Clips.{is_scroll_container}
use Rattle.layout_model.specs.Views.{View, inputs_in_view}
use Rattle.layout_model.specs.Reach.{range_of, range_of_view}
use Rattle.layout_model.specs.Places.{place_in}
use Rattle.page_model.specs.World.{Extent, Screen, DocumentState, Fresh, Active, Dead, Container, InElement, InDocument, Scrolls, Tree}
use Rattle.page_model.specs.Lookups.{element_at, document_at}
use Rattle.page_model.specs.Documents.{frame_levels, nodes_of}
use Rattle.page_model.specs.Scrolls.{position_of, offset_of as offset_within}

abbrev pub pair_of : Extent → ℕ × ℕ
pair_of extent = (extent.across, extent.down)

abbrev pub extent_of : ℕ × ℕ → Extent
extent_of pair = record { across = pair.0; down = pair.1 }

-- the view of a document that shows nothing
abbrev pub no_view : View
no_view = record { root = None; width = 0; height = 0; scrolled = (0, 0) }

-- the size of a viewport: for the top document, which has no frame, the screen's; for any other that of its frame's content box, or
-- None if the frame has no box. `views` gives the views of the documents that frames are in
abbrev pub framed_size : Tree → Screen → (ℕ → View) → Option ℕ → Option (ℕ × ℕ)
framed_size tree screen views None = Some (pair_of (screen.size))
framed_size tree screen views (Some frame) =
    option_map
    (λ inputs. content_size (box_in (nodes_of tree) inputs frame))
    (inputs_in_view (nodes_of tree) (views (element_at tree frame).document) frame)

abbrev pub view_with : Option ℕ → Option (ℕ × ℕ) → View
view_with root None = no_view
view_with root (Some size) = record { root = root; width = size.0; height = size.1; scrolled = (0, 0) }

abbrev pub view_if_active : Tree → Screen → (ℕ → View) → ℕ → DocumentState → View
view_if_active tree screen views document Active =
    view_with (document_at tree document).root (framed_size tree screen views (document_at tree document).frame)
view_if_active tree screen views document Fresh = no_view
view_if_active tree screen views document Dead = no_view

unfoldable pub view_up : ℕ → Tree → Screen → ℕ → View
unfolding inputs_in_view box_in
view_up zero tree screen document = no_view
view_up (suc high) tree screen document =
    view_if_active tree screen (view_up high tree screen) document (document_at tree document).state

-- the view of a document with its root element, not scrolled; `no_view` if the document isn't Active or its frame has no box
unfoldable pub view_of : Tree → Screen → ℕ → View
unfolding view_up
view_of tree screen document = view_up frame_levels tree screen document

-- the size of a document's viewport, whether or not it is Active: 0 by 0 if its frame has no box
unfoldable pub viewport_of : Tree → Screen → ℕ → Extent
unfolding view_of
viewport_of tree screen document =
    extent_of (unwrap_or (framed_size tree screen (view_of tree screen) (document_at tree document).frame) (0, 0))

-- the view that an element is in: that of its node document, since it can be in no other document's tree
abbrev pub view_at : Tree → Screen → ℕ → View
view_at tree screen n = view_of tree screen (element_at tree n).document

-- the layout inputs of an element, None if it has no box
unfoldable pub inputs_of : Tree → Screen → ℕ → Option Inputs
unfolding view_of inputs_in_view
inputs_of tree screen n = inputs_in_view (nodes_of tree) (view_at tree screen n) n

unfoldable pub has_box : Tree → Screen → ℕ → Bool
unfolding inputs_of
has_box tree screen n = is_some (inputs_of tree screen n)

unfoldable pub box_of : Tree → Screen → ℕ → Option Box
unfolding inputs_of box_in
box_of tree screen n = option_map (λ inputs. box_in (nodes_of tree) inputs n) (inputs_of tree screen n)

-- a length in whole device pixels, rounded to nearest with halves up, at a ratio in hundredths of a percent. A pixel has 64 units.
-- (The rounding is this project's own.)
abbrev pub device_pixels : ℕ → ℕ → ℕ
device_pixels ratio units = (units * ratio + 320000) / 640000

-- the size of one of the boxes: in units, or for the device-pixel content box in device pixels (Resize Observer, 3.4: calculate box size)
abbrev pub size_by : ℕ → BoxKind → Box → ℕ × ℕ
size_by ratio Content box = content_size box
size_by ratio Border box = border_size box
size_by ratio Device box = (device_pixels ratio (box.width), device_pixels ratio (box.height))

-- the size of one of an element's boxes, 0 by 0 without a box
unfoldable pub size_of : Tree → Screen → ℕ → BoxKind → Extent
unfolding box_of
size_of tree screen n kind = extent_of (unwrap_or (option_map (size_by (screen.ratio) kind) (box_of tree screen n)) (0, 0))

-- the content box's corner in the padding box, which is the left and top paddings; 0 by 0 without a box
unfoldable pub corner_of : Tree → Screen → ℕ → Extent
unfolding box_of
corner_of tree screen n = extent_of (unwrap_or (option_map content_corner (box_of tree screen n)) (0, 0))

-- whether an element is a scroll container with a box
unfoldable pub is_scroller : Tree → Screen → ℕ → Bool
unfolding has_box
is_scroller tree screen n = has_box tree screen n && is_scroll_container (nodes_of tree n)

-- the scroll range, 0 by 0 for an element that isn't a scroll container with a box
abbrev pub range_if : Tree → Screen → ℕ → Bool → ℕ × ℕ
range_if tree screen n true = range_of (nodes_of tree) (view_at tree screen n) n
range_if tree screen n false = (0, 0)

abbrev pub range_by : Tree → Screen → Container → ℕ × ℕ
range_by tree screen (InElement n) = range_if tree screen n (is_scroller tree screen n)
range_by tree screen (InDocument document) = range_of_view (nodes_of tree) (view_of tree screen document)

unfoldable pub scroll_range : Tree → Screen → Container → Extent
unfolding is_scroller view_of range_of range_of_view
scroll_range tree screen target = extent_of (range_by tree screen target)

-- the scroll offset in force: the stored position, limited to the scroll range on each axis
unfoldable pub scroll_offset : Tree → Screen → Scrolls → Container → Extent
unfolding scroll_range
scroll_offset tree screen scrolls target = offset_within target (scroll_range tree screen target) scrolls

-- the stored scroll positions of elements
abbrev pub stored_in : Scrolls → ℕ → ℕ × ℕ
stored_in scrolls n = pair_of (position_of (InElement n) scrolls)

-- a document's view at its stored scroll position
abbrev pub scrolled_view : Tree → Screen → Scrolls → ℕ → View
scrolled_view tree screen scrolls document =
    record (view_of tree screen document) { scrolled = pair_of (position_of (InDocument document) scrolls) }

abbrev pub point_of : ℤ × ℤ → Point
point_of pair = record { left = pair.0; top = pair.1 }

abbrev pub place_if : Tree → Screen → Scrolls → ℕ → Bool → Point
place_if tree screen scrolls n true =
    point_of (place_in (nodes_of tree) (stored_in scrolls) (scrolled_view tree screen scrolls (element_at tree n).document) n)
place_if tree screen scrolls n false = point_of (pos 0, pos 0)

-- the place of an element's border box in its document's viewport
unfoldable pub place_of : Tree → Screen → Scrolls → ℕ → Point
unfolding has_box view_of place_in
place_of tree screen scrolls n = place_if tree screen scrolls n (has_box tree screen n)
