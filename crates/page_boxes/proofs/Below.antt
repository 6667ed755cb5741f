-- What a document shows, by what is shown around it.
use Rattle.std.proofs.Common.{◌≡◌, ℕ, Bool, true, cond, None, Some, refl, ap, sym, ◌∙◌}
use Rattle.layout_model.specs.Views.{View}
use Rattle.page_model.specs.World.{Screen, Tree}
use Rattle.page_model.specs.Lookups.{element_at, document_at}
use Rattle.page_model.specs.Documents.{is_active}
use Rattle.page_model.specs.PageBoxes.{framed_size, view_with, view_of, has_box}
use Rattle.page_documents.specs.Frames.{AreFramed}
use Rattle.page_boxes.proofs.Pages.{boxed_is}
use Rattle.page_boxes.proofs.Views.{boxed_size, view_is}

module _ (tree : Tree) (framed : AreFramed tree) (screen : Screen) (document : ℕ) (active : is_active tree document ≡ true) where
  pub unframed_root : (document_at tree document).frame ≡ None → (view_of tree screen document).root ≡ (document_at tree document).root
  unframed_root none =
      ap (λ (view : View). view.root) (view_is tree framed screen document active)
      ∙ ap (λ frame. (view_with (document_at tree document).root (framed_size tree screen (view_of tree screen) frame)).root) none

  pub root_below : (frame : ℕ) → (document_at tree document).frame ≡ Some frame → (boxed : Bool) → boxed ≡ has_box tree screen frame
      → (view_of tree screen document).root ≡ cond boxed (document_at tree document).root None
  root_below frame is boxed there =
      ap (λ (view : View). view.root) (view_is tree framed screen document active)
      ∙ ap (λ frame. (view_with (document_at tree document).root (framed_size tree screen (view_of tree screen) frame)).root) is
      ∙ boxed_size tree screen 65536 65535 document refl active (view_of tree screen (element_at tree frame).document) frame boxed
      (sym (boxed_is tree screen frame) ∙ sym there) (document_at tree document).root
