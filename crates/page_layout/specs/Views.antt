-- The view of a page's elements with their boxes, and what is noted of the boxes.
use Rattle.std.specs.Prelude.{◌≡◌, ℕ, false, ◌&&◌, nat_lt, List, length, Option, IfSome}
use Rattle.kept_layout.specs.declared.slots.Slot.{Slot}
use Rattle.page_model.specs.World.{Screen, Tree}
use Rattle.page_tree.specs.Views.{PageElements}
use Rattle.page_boxes.specs.Fresh.{IsFresh}
use Rattle.page_boxes.specs.Kept.{AreKept, is_due}
use Rattle.page_boxes.specs.Pages.{seen_screen}
use Rattle.page_boxes.specs.declared.screens.Screen.{Screen as ShownScreen}

-- elements and documents, and what is kept for each element; there is room for one more element only if its slot exists too
pub record LaidElements : Type 0 where
  pub elements : PageElements
  pub kept : List Slot

abbrev pub seen_laid : PageElements → List Slot → LaidElements
seen_laid page kept = record {
  elements = record page { ready = page.ready && nat_lt (length page.tree.elements) (length kept) };
  kept = kept;
}

-- each box of the page is as it is now, for a `top` with this screen, and none is to be computed
pub record IsUpToDate (tree : Tree) (screen : Screen) (kept : List Slot) : Type 0 where
  pub fresh : IsFresh tree screen kept
  pub done : (n : ℕ) → is_due tree screen kept n ≡ false

-- what is kept is consistent with the elements, and up to date for the screen that is noted, if one is
pub record AreNoted (tree : Tree) (noted : Option ShownScreen) (slots : List Slot) : Type 0 where
  pub kept : AreKept tree slots
  pub current : IfSome noted (λ screen. IsUpToDate tree (seen_screen screen) slots)
