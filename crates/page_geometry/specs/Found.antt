-- What was found of documents: the root element that each shows, the size of its viewport, the viewport's scroll offset, and its
-- origin.
use Rattle.std.specs.Prelude.{◌≡◌, ℕ, List, Option, None, IfSome, option_map}
use Rattle.px_units.specs.declared.Point.{Point}
use Rattle.element_tree.specs.Links.{number}
use Rattle.page_model.specs.Lookups.{entry_or}
use Rattle.page_model.specs.PageBoxes.{pair_of, view_of}
use Rattle.page_model.specs.Shown.{Shown, viewport_of}
use Rattle.page_model.specs.Chains.{origin}
use Rattle.block_layout.specs.Seen.{as_size}
use Rattle.page_tree.specs.Items.{IsNatural}
use Rattle.page_geometry.specs.declared.documents.FoundDocument.{FoundDocument}
use Rattle.page_geometry.specs.Documents.{IsViewOffset}
use Rattle.page_geometry.specs.Ranges.{IsOrigin}

-- what was found of a document, none if it wasn't looked at
abbrev pub found_at : List (Option FoundDocument) → ℕ → Option FoundDocument
found_at found document = entry_or None found document

-- the origin of a document's viewport in the coordinates of the viewport of `top`
pub record IsBeginning (shown : Shown) (document : ℕ) (at : Point) : Type 0 where
  pub value : at ≡ origin shown document
  pub range : IsOrigin 64 at

pub record IsFound (shown : Shown) (document : ℕ) (it : FoundDocument) : Type 0 where
  pub root : option_map number it.view.root ≡ (view_of shown.tree shown.screen document).root
  pub viewport : it.view.size ≡ as_size (pair_of (viewport_of shown document))
  pub natural : IsNatural it.view.size
  pub scrolled : IfSome it.view.offset (IsViewOffset shown document)
  pub begins : IfSome it.origin (IsBeginning shown document)

-- the same for each document that was looked at
abbrev pub AreFound : Shown → List (Option FoundDocument) → Type 0
AreFound shown found = (document : ℕ) → IfSome (found_at found document) (IsFound shown document)
