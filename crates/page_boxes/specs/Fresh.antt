-- Held boxes that are up to date, with the heights above them.
use Rattle.std.specs.Prelude.{◌≡◌, ℕ, List, Some}
use Rattle.layout_model.specs.Nodes.{Node}
use Rattle.layout_model.specs.Boxes.{Inputs}
use Rattle.layout_model.specs.Views.{View, inputs_in_view}
use Rattle.kept_layout.specs.declared.slots.Slot.{Slot}
use Rattle.kept_layout.specs.Fresh.{IsFresh as IsFreshAt}
use Rattle.kept_layout.specs.Slots.{slot_in}
use Rattle.page_model.specs.World.{Screen, Tree, Container, InElement, InDocument}
use Rattle.page_model.specs.Lookups.{element_at, document_at}
use Rattle.page_model.specs.Documents.{nodes_of}
use Rattle.page_model.specs.PageBoxes.{view_of}

-- each box in a view
pub record HoldsAll (at : ℕ → Node) (view : View) (kept : List Slot) : Type 0 where
  pub boxes : (n : ℕ) (inputs : Inputs) → inputs_in_view at view n ≡ Some inputs → IsFreshAt at (slot_in kept) n inputs

-- each box of a document, for a `top` with this screen
abbrev pub IsFreshIn : Tree → Screen → List Slot → ℕ → Type 0
IsFreshIn tree screen kept document = HoldsAll (nodes_of tree) (view_of tree screen document) kept

-- each box of the page
pub record IsFresh (tree : Tree) (screen : Screen) (kept : List Slot) : Type 0 where
  pub documents : (document : ℕ) → IsFreshIn tree screen kept document

-- each box of the document that the frame of a document is in; none for `top`
abbrev pub IsFreshAbove : Tree → Screen → List Slot → ℕ → Type 0
IsFreshAbove tree screen kept document =
    (frame : ℕ) → (document_at tree document).frame ≡ Some frame → IsFreshIn tree screen kept (element_at tree frame).document

-- the boxes that a reading depends on: those of an element's own document, and for a document those of the one that its frame is
-- in
abbrev pub IsFreshFor : Tree → Screen → List Slot → Container → Type 0
IsFreshFor tree screen kept (InElement n) = IsFreshIn tree screen kept (element_at tree n).document
IsFreshFor tree screen kept (InDocument document) = IsFreshAbove tree screen kept document
