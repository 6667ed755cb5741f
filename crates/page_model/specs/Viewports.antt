-- The screen of the top document, and the viewport sizes noted by the resize steps (CSSOM View, 13).
use Rattle.std.specs.Prelude.{ℕ, Bool, false, not, Option, Some, None}
use Rattle.page_model.specs.World.{Extent, Viewports}
use Rattle.page_model.specs.Lookups.{same_extent, entry_or, put_at}

abbrev pub with_size : ℕ → ℕ → Viewports → Viewports
with_size width height it = record it { screen = record (it.screen) { size = record { across = width; down = height } } }

abbrev pub with_ratio : ℕ → Viewports → Viewports
with_ratio hundredths it = record it { screen = record (it.screen) { ratio = hundredths } }

-- the size that was noted for a document, if any
abbrev pub noted_size : ℕ → Viewports → Option Extent
noted_size document it = entry_or None it.noted document

abbrev pub with_noted : ℕ → Extent → Viewports → Viewports
with_noted document size it = record it { noted = put_at None document (Some size) (it.noted) }

-- whether a size differs from the noted one; false if none was noted
abbrev pub differs_from : Extent → Option Extent → Bool
differs_from size None = false
differs_from size (Some noted) = not (same_extent noted size)
