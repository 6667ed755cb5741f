-- What the command `read` reports (CSSOM View, 6: getBoundingClientRect, scrollLeft and scrollTop; 4: innerWidth, innerHeight, scrollX
-- and scrollY).
use Rattle.std.specs.Prelude.{ℕ, List, pos, ◌+ℤ◌, Bool, true, false}
use Rattle.px_units.specs.declared.BoxKind.TheVariants.{Border}
use Rattle.px_units.specs.declared.Point.{Point}
use Rattle.px_units.specs.declared.Rect.{Rect}
use Rattle.script_model.specs.TraceLines.{TraceLine, ReadLine}
use Rattle.page_model.specs.World.{Extent, Screen, InElement, InDocument, Scrolls, Name, Tree, Container}
use Rattle.page_model.specs.Lookups.{no_extent}
use Rattle.page_model.specs.Names.{element_text, document_text}
use Rattle.page_model.specs.PageBoxes.{viewport_of, size_of, place_of, is_scroller, scroll_offset}

abbrev pub rect_of : Point → Extent → Rect
rect_of corner size = record {
  left = corner.left;
  top = corner.top;
  right = corner.left +ℤ pos (size.across);
  bottom = corner.top +ℤ pos (size.down);
}

abbrev pub point_at : Extent → Point
point_at extent = record { left = pos (extent.across); top = pos (extent.down) }

-- the scroll offset in force of an element: 0 by 0 if it isn't a scroll container with a box, which a root element never is
abbrev pub shown_scroll : Tree → Screen → Scrolls → ℕ → Bool → Extent
shown_scroll tree screen scrolls n true = scroll_offset tree screen scrolls (InElement n)
shown_scroll tree screen scrolls n false = no_extent

-- for an element its border box in its document's viewport, all zeros without a box; for a document its viewport; for both the scroll
-- offset in force
abbrev pub reading_of : List Name → Tree → Screen → Scrolls → Container → TraceLine
reading_of names tree screen scrolls (InElement n) =
    ReadLine
    (element_text names n)
    (rect_of (place_of tree screen scrolls n) (size_of tree screen n Border))
    (point_at (shown_scroll tree screen scrolls n (is_scroller tree screen n)))
reading_of names tree screen scrolls (InDocument document) =
    ReadLine
    (document_text names document)
    (rect_of (point_at no_extent) (viewport_of tree screen document))
    (point_at (scroll_offset tree screen scrolls (InDocument document)))
