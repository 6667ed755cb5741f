-- One document of a page as it is shown, and the scroll offsets in force of its viewport and its elements.
use Rattle.std.specs.Prelude.{◌≡◌, ℕ}
use Rattle.std.specs.Ordering.{nat_cmp}
use Rattle.std.specs.FinMap.{FinMap}
use Rattle.px_units.specs.declared.Point.{Point}
use Rattle.page_model.specs.World.{InDocument}
use Rattle.page_model.specs.Documents.{nodes_of}
use Rattle.page_model.specs.PageBoxes.{pair_of, stored_in, view_of}
use Rattle.page_model.specs.Shown.{Shown, scroll_offset}
use Rattle.block_layout.specs.Seen.{as_point}
use Rattle.page_boxes.specs.Offsets.{AreOffsets, AreInForce}
use Rattle.page_boxes.specs.Ranges.{IsOffset}

pub record ShownIn : Type 0 where
  pub shown : Shown
  pub document : ℕ

-- the scroll offset in force of a document's viewport
pub record IsViewOffset (shown : Shown) (document : ℕ) (offset : Point) : Type 0 where
  pub value : offset ≡ as_point (pair_of (scroll_offset shown (InDocument document)))
  pub range : IsOffset offset

-- scroll offsets that were found of elements; those of elements with a box in the document are the ones in force
pub record AreOffsetsIn (shown : Shown) (document : ℕ) (found : FinMap nat_cmp Point) : Type 0 where
  pub value : AreInForce (nodes_of shown.tree) (stored_in shown.scrolls) (view_of shown.tree shown.screen document) found
  pub range : AreOffsets found
