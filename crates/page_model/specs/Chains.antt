-- The chain of containers from a target to a root, and the rectangles that clip the target on the way, in the coordinates of the
-- top document's viewport (Intersection Observer, 3.2: compute the intersection of a target element and the root).
use Rattle.std.specs.Prelude.{ℕ, zero, suc, Bool, true, false, cond, not, ◌==◌, List, [], ◌∷◌, Option, Some, None, option_map, filter_map, take_while, fold, ℤ, pos, neg_ℤ, ◌+ℤ◌, ◌-ℤ◌, ◌*ℤ◌, int_div}
use Rattle.px_units.specs.declared.BoxKind.TheVariants.{Border}
use Rattle.px_units.specs.declared.Rect.{Rect}
use Rattle.px_units.specs.declared.Point.{Point}
use Rattle.px_units.specs.Rects.{has_points, overlap, shifted}
use Rattle.layout_model.specs.Boxes.{Box, padding_size, padding_corner, inner_corner}
use Rattle.layout_model.specs.Clips.{clips, is_scroll_container}
use Rattle.layout_model.specs.Nodes.{Holder, HeldByElement, HeldByPage, HeldByScreen, holder}
use Rattle.script_model.specs.Margins.{MarginPart, MarginPixels, MarginPercentage, Margins}
use Rattle.page_model.specs.World.{Tree, Root, ImplicitRoot, DocumentRoot, ElementRoot, Container, InElement, InDocument}
use Rattle.page_model.specs.Lookups.{element_at, document_at}
use Rattle.page_model.specs.Documents.{frame_levels, nodes_of, tree_document}
use Rattle.page_model.specs.PageBoxes.{extent_of}
use Rattle.page_model.specs.PageBoxes as boxes
use Rattle.page_model.specs.Shown.{Shown, viewport_of, has_box, box_of, size_of, place_of}
use Rattle.page_model.specs.Readings.{rect_of}

abbrev pub zero_point : Point
zero_point = record { left = pos 0; top = pos 0 }

abbrev pub zero_rect : Rect
zero_rect = record { left = pos 0; top = pos 0; right = pos 0; bottom = pos 0 }

abbrev pub added : Point → Point → Point
added p q = record { left = p.left +ℤ q.left; top = p.top +ℤ q.top }

-- a rectangle translated by a point's coordinates, and by their negatives
abbrev pub moved_by : Point → Rect → Rect
moved_by p r = shifted r (p.left) (p.top)

abbrev pub moved_back : Point → Rect → Rect
moved_back p r = shifted r (neg_ℤ p.left) (neg_ℤ p.top)

abbrev pub beside : Point → ℕ × ℕ → Point
beside p by = record { left = p.left +ℤ pos (by.0); top = p.top +ℤ pos (by.1) }

-- for an element whose border box is at `place` in its document's viewport: its padding box, which is the zero rectangle without a
-- box, and the top left corner of its content box
abbrev pub padding_box_at : Point → Option Box → Rect
padding_box_at place None = zero_rect
padding_box_at place (Some box) = rect_of (beside place (padding_corner box)) (extent_of (padding_size box))

abbrev pub content_corner_at : Point → Option Box → Point
content_corner_at place None = place
content_corner_at place (Some box) = beside place (inner_corner box)

abbrev pub origin_with_box : (ℕ → Point) → Shown → Bool → ℕ → Point
origin_with_box above shown true frame =
    added (content_corner_at (place_of shown frame) (box_of shown frame)) (above (element_at (shown.tree) frame).document)
origin_with_box above shown false frame = zero_point

abbrev pub origin_by_frame : (ℕ → Point) → Shown → Option ℕ → Point
origin_by_frame above shown None = zero_point
origin_by_frame above shown (Some frame) = origin_with_box above shown (has_box shown frame) frame

unfoldable pub origin_up : ℕ → Shown → ℕ → Point
unfolding boxes.has_box boxes.box_of boxes.place_of
origin_up zero shown document = zero_point
origin_up (suc high) shown document = origin_by_frame (origin_up high shown) shown (document_at (shown.tree) document).frame

-- the top left corner of a document's viewport: the zero point for the top document, and for one whose frame has no box
unfoldable pub origin : Shown → ℕ → Point
unfolding origin_up
origin shown document = origin_up frame_levels shown document

abbrev pub origin_of_element : Shown → ℕ → Point
origin_of_element shown element = origin shown (element_at (shown.tree) element).document

-- in the coordinates of the top document's viewport: the viewport of a document, and the border box and the padding box of an element
unfoldable pub viewport_rect : Shown → ℕ → Rect
unfolding origin boxes.viewport_of
viewport_rect shown document = rect_of (origin shown document) (viewport_of shown document)

unfoldable pub border_rect : Shown → ℕ → Rect
unfolding origin boxes.place_of boxes.size_of
border_rect shown element = moved_by (origin_of_element shown element) (rect_of (place_of shown element) (size_of shown element Border))

unfoldable pub padding_rect : Shown → ℕ → Rect
unfolding origin boxes.place_of boxes.box_of
padding_rect shown element = moved_by (origin_of_element shown element) (padding_box_at (place_of shown element) (box_of shown element))

abbrev pub clips_in : Shown → ℕ → Bool
clips_in shown element = clips (nodes_of (shown.tree) element)

abbrev pub container_held : Holder → Option ℕ → Option Container
container_held (HeldByElement element) document = Some (InElement element)
container_held HeldByPage document = option_map InDocument document
container_held HeldByScreen document = option_map InDocument document

-- what holds an element's box: the box of another element, or the viewport of the document whose tree the element is in. The viewport
-- stands for both the page and the screen
abbrev pub holding : Tree → ℕ → Option Container
holding tree element = container_held (holder (nodes_of tree) element) (tree_document tree element)

-- the next container outwards: what holds an element's box, or the frame of a document
abbrev pub container_beyond : Tree → Container → Option Container
container_beyond tree (InElement element) = holding tree element
container_beyond tree (InDocument document) = option_map InElement (document_at tree document).frame

abbrev pub containers_by : (Container → List Container) → Option Container → List Container
containers_by outwards None = []
containers_by outwards (Some container) = outwards container

unfoldable pub containers_from : ℕ → Tree → Container → List Container
unfolding holder tree_document
containers_from zero tree container = []
containers_from (suc most) tree container =
    container ∷ containers_by (containers_from most tree) (container_beyond tree container)

-- more than the containers that an element can be nested in, which are the levels of the trees of 64 documents, and these documents;
-- a bound of this project
abbrev pub most_containers : ℕ
most_containers = 65536

-- all containers of an element, from what holds its box outwards to the top document
abbrev pub containers_of : Tree → ℕ → List Container
containers_of tree element = containers_by (containers_from most_containers tree) (holding tree element)

-- the implicit root is the top document
abbrev pub is_root : Root → Container → Bool
is_root ImplicitRoot (InDocument document) = document == 0
is_root (DocumentRoot root) (InDocument document) = document == root
is_root (ElementRoot root) (InElement element) = element == root
is_root root container = false

-- the containers strictly between a target and a root
abbrev pub containers_between : Tree → Root → ℕ → List Container
containers_between tree root target = take_while (λ c. not (is_root root c)) (containers_of tree target)

-- the clip of a container: the padding box of an element that clips, none for any other element; the viewport of a document
abbrev pub clip_of : Shown → Container → Option Rect
clip_of shown (InElement element) = cond (clips_in shown element) (Some (padding_rect shown element)) None
clip_of shown (InDocument document) = Some (viewport_rect shown document)

-- the clips strictly between a target and a root
unfoldable pub clips_between : Shown → Root → ℕ → List Rect
unfolding containers_from viewport_rect padding_rect
clips_between shown root target = filter_map (clip_of shown) (containers_between (shown.tree) root target)

-- the intersection of a rectangle with others, or None if no point is common to all of them
unfoldable pub common_part : Rect → List Rect → Option Rect
common_part first others =
    let common = fold overlap first others in
    cond (has_points common) (Some common) None

-- a margin in units. A percentage on any of the four sides is resolved against the width of the rectangle before its expansion, and
-- truncated toward zero. (That this holds for top and bottom too, and the truncation, are this project's own reading.)
abbrev pub margin_units : ℤ → MarginPart → ℤ
margin_units width (MarginPixels units) = units
margin_units width (MarginPercentage hundredths) = int_div (width *ℤ hundredths) (pos 10000)

-- a rectangle with its edges moved outward by margins
abbrev pub moved_out : Margins → Rect → Rect
moved_out margins r =
    let width = r.right -ℤ r.left in
    record {
      left = r.left -ℤ margin_units width (margins.left);
      top = r.top -ℤ margin_units width (margins.top);
      right = r.right +ℤ margin_units width (margins.right);
      bottom = r.bottom +ℤ margin_units width (margins.bottom);
    }

-- an observer's scroll margins expand the clips of scroll containers (Intersection Observer, 2.2: scrollMargin). That they don't
-- expand the viewports of documents is this project's own
abbrev pub has_scroll_margins : Tree → Container → Bool
has_scroll_margins tree (InElement element) = is_scroll_container (nodes_of tree element)
has_scroll_margins tree (InDocument document) = false

-- the clip of a container for an observer with these scroll margins
abbrev pub clip_for : Shown → Margins → Container → Option Rect
clip_for shown scroll_margins container =
    cond (has_scroll_margins (shown.tree) container) (option_map (moved_out scroll_margins) (clip_of shown container)) (clip_of shown container)

-- the clips strictly between a target and a root, for an observer with these scroll margins
unfoldable pub clips_for : Shown → Margins → Root → ℕ → List Rect
unfolding containers_from viewport_rect padding_rect
clips_for shown scroll_margins root target = filter_map (clip_for shown scroll_margins) (containers_between (shown.tree) root target)

-- for an element as root: its padding box if it clips, else its border box; the zero rectangle without a box
abbrev pub element_root_bounds : Shown → ℕ → Bool → Rect
element_root_bounds shown element true = cond (clips_in shown element) (padding_rect shown element) (border_rect shown element)
element_root_bounds shown element false = zero_rect

abbrev pub root_bounds : Shown → Root → Rect
root_bounds shown ImplicitRoot = viewport_rect shown 0
root_bounds shown (DocumentRoot document) = viewport_rect shown document
root_bounds shown (ElementRoot element) = element_root_bounds shown element (has_box shown element)

-- the root intersection rectangle (Intersection Observer, 2.2)
unfoldable pub root_rect : Shown → Root → Margins → Rect
unfolding viewport_rect border_rect padding_rect boxes.has_box
root_rect shown root margins = moved_out margins (root_bounds shown root)
