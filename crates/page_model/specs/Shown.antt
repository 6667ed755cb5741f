-- What determines how a page is shown: elements and documents, the screen of the top document, and the scroll positions. Boxes, places,
-- clips and findings depend on these only; sizes depend on the first two only, so that scrolling never changes a size.
use Rattle.std.specs.Prelude.{ℕ, Bool, Option}
use Rattle.px_units.specs.declared.BoxKind.{BoxKind}
use Rattle.px_units.specs.declared.Point.{Point}
use Rattle.layout_model.specs.Boxes.{Box}
use Rattle.page_model.specs.World.{Extent, Screen, Tree, Container, Scrolls, World}
use Rattle.page_model.specs.PageBoxes as boxes

pub record Shown : Type 0 where
  pub tree : Tree
  pub screen : Screen
  pub scrolls : Scrolls

abbrev pub shown_with : Tree → Screen → Scrolls → Shown
shown_with tree screen scrolls = record { tree = tree; screen = screen; scrolls = scrolls }

-- those of a world
abbrev pub shown_of : World → Shown
shown_of world = record { tree = world.tree; screen = world.viewports.screen; scrolls = world.scrolls }

-- what is computed from it

abbrev pub has_box : Shown → ℕ → Bool
has_box shown n = boxes.has_box (shown.tree) (shown.screen) n

abbrev pub box_of : Shown → ℕ → Option Box
box_of shown n = boxes.box_of (shown.tree) (shown.screen) n

abbrev pub size_of : Shown → ℕ → BoxKind → Extent
size_of shown n kind = boxes.size_of (shown.tree) (shown.screen) n kind

abbrev pub corner_of : Shown → ℕ → Extent
corner_of shown n = boxes.corner_of (shown.tree) (shown.screen) n

abbrev pub viewport_of : Shown → ℕ → Extent
viewport_of shown document = boxes.viewport_of (shown.tree) (shown.screen) document

abbrev pub place_of : Shown → ℕ → Point
place_of shown n = boxes.place_of (shown.tree) (shown.screen) (shown.scrolls) n

abbrev pub scroll_range : Shown → Container → Extent
scroll_range shown target = boxes.scroll_range (shown.tree) (shown.screen) target

abbrev pub scroll_offset : Shown → Container → Extent
scroll_offset shown target = boxes.scroll_offset (shown.tree) (shown.screen) (shown.scrolls) target
