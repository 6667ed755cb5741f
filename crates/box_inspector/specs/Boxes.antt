-- The boxes of a page: where each is, and the visible part of it (CSSOM View, 6: getBoundingClientRect; Intersection Observer,
-- 3.2.7: compute the intersection of a target element and the root). That they are listed, and in which order, is this project's
-- own.
use Rattle.std.specs.Prelude.{ℕ, List, [], ◌∷◌, filter, flat_map, map, Option, Some, None, option_map}
use Rattle.px_units.specs.declared.Rect.{Rect}
use Rattle.px_units.specs.declared.BoxKind.TheVariants.{Border}
use Rattle.page_model.specs.World.{ImplicitRoot, Tree, World}
use Rattle.page_model.specs.Lookups.{document_at}
use Rattle.page_model.specs.Names.{element_text}
use Rattle.page_model.specs.Documents.{active_documents, element_depth, inclusive_descendants}
use Rattle.page_model.specs.Readings.{rect_of}
use Rattle.page_model.specs.Shown.{Shown, shown_of, has_box, place_of, size_of}
use Rattle.page_model.specs.Chains.{border_rect, clips_between, common_part, moved_back, origin_of_element, viewport_rect}
use Rattle.page_model.specs.PageBoxes as boxes
use Rattle.page_model.specs.Chains as chains
use Rattle.box_inspector.specs.declared.lines.BoxLine.{BoxLine}

-- an element and its descendants in tree order, none if there is no element
abbrev pub elements_below : Tree → Option ℕ → List ℕ
elements_below tree None = []
elements_below tree (Some root) = inclusive_descendants tree root

-- the elements of a document's tree that have a box, in tree order
unfoldable pub boxed_elements : Shown → ℕ → List ℕ
unfolding inclusive_descendants boxes.has_box
boxed_elements shown document = filter (has_box shown) (elements_below (shown.tree) (document_at (shown.tree) document).root)

-- the visible part of an element within the viewport of the top document, which is the implicit root, in the coordinates of the
-- element's own document
unfoldable pub seen_part : Shown → ℕ → Option Rect
unfolding border_rect chains.origin clips_between common_part viewport_rect
seen_part shown n =
    option_map
    (moved_back (origin_of_element shown n))
    (common_part (border_rect shown n) (viewport_rect shown 0 ∷ clips_between shown ImplicitRoot n))

-- a box with its element's name and depth; its place is the border box in the viewport of the element's document
unfoldable pub box_line : World → ℕ → BoxLine
unfolding element_depth boxes.place_of boxes.size_of seen_part
box_line world n = record {
  name = element_text (world.names) n;
  depth = element_depth (world.tree) n;
  place = rect_of (place_of (shown_of world) n) (size_of (shown_of world) n Border);
  seen = seen_part (shown_of world) n;
}

-- the boxes of each Active document, in the order in which documents are updated
unfoldable pub box_list : World → List BoxLine
unfolding active_documents boxed_elements box_line
box_list world = flat_map (λ document. map (box_line world) (boxed_elements (shown_of world) document)) (active_documents (world.tree))
