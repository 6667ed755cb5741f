-- Scrolling by commands (CSSOM View, 4 to 6: the scrolling methods of windows and elements; that a document scrolls regardless of its
-- root element's overflow is this project's own).
use Rattle.std.specs.Prelude.{ℕ, ℤ, pos, ◌+ℤ◌, Bool, true, false, Option, Some, None}
use Rattle.page_model.specs.World.{Screen, Container, InElement, InDocument, Tree, World}
use Rattle.page_model.specs.Lookups.{element_at}
use Rattle.page_model.specs.Documents.{is_root_element, document_of_container}
use Rattle.page_model.specs.PageBoxes.{is_scroller, scroll_range, scroll_offset}
use Rattle.page_model.specs.Scrolls.{within_range, scrolled}

abbrev pub scrolled_element : ℕ → ℕ → Bool → Bool → Option Container
scrolled_element n document true scrolls = Some (InDocument document)
scrolled_element n document false true = Some (InElement n)
scrolled_element n document false false = None

-- what a scroll command scrolls: the document, for a document or its root element; a scroll container with a box; nothing for any other
-- element
abbrev pub scrolled_thing : Tree → Screen → Container → Option Container
scrolled_thing tree screen (InElement n) = scrolled_element n (element_at tree n).document (is_root_element tree n) (is_scroller tree screen n)
scrolled_thing tree screen (InDocument document) = Some (InDocument document)

-- the requested position is clamped to the scroll range. The target is put on the list of pending scroll events of the document that is
-- its node document now
abbrev pub scrolled_to : ℤ → ℤ → Option Container → World → World
scrolled_to left top None world = world
scrolled_to left top (Some target) world =
    let range = scroll_range (world.tree) (world.viewports.screen) target in
    record world { scrolls = scrolled (document_of_container (world.tree) target) target (within_range range left top) range (world.scrolls) }

-- the same, by a distance from the offset in force
abbrev pub scrolled_by : ℤ → ℤ → Option Container → World → World
scrolled_by left top None world = world
scrolled_by left top (Some target) world =
    let from = scroll_offset (world.tree) (world.viewports.screen) (world.scrolls) target in
    scrolled_to (pos (from.across) +ℤ left) (pos (from.down) +ℤ top) (Some target) world
