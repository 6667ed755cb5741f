-- The sizes and the screen of a page.
use Rattle.std.specs.Prelude.{◌≡◌, ℕ, Option, Some, unsigned_abs}
use Rattle.px_units.specs.declared.Size.{Size}
use Rattle.style_values.specs.Ranges.{IsHundredths}
use Rattle.page_model.specs.World.{Extent, Screen, Tree}
use Rattle.page_model.specs.Lookups.{element_at, document_at}
use Rattle.page_model.specs.PageBoxes.{view_of}
use Rattle.page_tree.specs.Items.{IsNatural}
use Rattle.page_boxes.specs.declared.screens.Screen.{Screen as ShownScreen}

abbrev pub seen_size : Size → Extent
seen_size size = record { across = unsigned_abs size.width; down = unsigned_abs size.height }

abbrev pub seen_screen : ShownScreen → Screen
seen_screen screen = record { size = seen_size screen.size; ratio = unsigned_abs (screen.ratio.0) }

-- the width and the height are from 0 to the largest length, and a CSS pixel is at most 100 device pixels
pub record IsScreen (screen : ShownScreen) : Type 0 where
  pub size : IsNatural screen.size
  pub ratio : IsHundredths (screen.ratio.0)

abbrev pub seen_pair : Size → ℕ × ℕ
seen_pair size = (unsigned_abs size.width, unsigned_abs size.height)

-- the root element that is shown around a document: by the document that its frame is in (HTML, 7.3: content navigables)
abbrev pub IsRootAbove : Tree → Screen → ℕ → Option ℕ → Type 0
IsRootAbove tree screen document root =
    (frame : ℕ) → (document_at tree document).frame ≡ Some frame → root ≡ (view_of tree screen (element_at tree frame).document).root
