-- What a document shows, by its root element, and the size of its viewport.
use Rattle.std.proofs.Common.{◌≡◌, ◌∙◌, ℕ, Bool, true, false, Option, Some, None, unwrap_or, refl, ap, sym}
use Rattle.layout_model.specs.Views.{View}
use Rattle.page_model.specs.World.{Screen, Tree}
use Rattle.page_model.specs.Lookups.{document_at}
use Rattle.page_model.specs.Documents.{is_active}
use Rattle.page_model.specs.PageBoxes.{pair_of, framed_size, view_with, view_of, viewport_of}
use Rattle.page_documents.specs.Frames.{AreFramed, IsRootOf}
use Rattle.page_boxes.proofs.Pages.{viewport_found}
use Rattle.page_boxes.proofs.Renewed.{idle_rootless}
use Rattle.page_boxes.proofs.Views.{view_root, view_is}

module _ (tree : Tree) (screen : Screen) (framed : AreFramed tree) (document root : ℕ) (shown : (view_of tree screen document).root ≡ Some root) where
  by_size : (pair : ℕ × ℕ) (own : Option ℕ) (found : Option (ℕ × ℕ)) → view_of tree screen document ≡ view_with own found → pair ≡ unwrap_or found (0, 0)
      → view_of tree screen document ≡ view_with (Some root) (Some pair)
  by_size pair own None is size = let no : None ≡ Some root = sym (ap (λ (view : View). view.root) is) ∙ shown in cc
  by_size pair own (Some found) is size =
      let rooted : own ≡ Some root = sym (ap (λ (view : View). view.root) is) ∙ shown in
      is ∙ (λ i. view_with (rooted i) (Some (sym size i)))

  -- a document that shows its root element shows it in its viewport
  pub view_found : (pair : ℕ × ℕ) → pair ≡ pair_of (viewport_of tree screen document) → view_of tree screen document ≡ view_with (Some root) (Some pair)
  view_found pair size = by_state (is_active tree document) refl
    where
      by_state : (active : Bool) → is_active tree document ≡ active → view_of tree screen document ≡ view_with (Some root) (Some pair)
      by_state false none = let no : None ≡ Some root = sym (idle_rootless tree screen document none) ∙ shown in cc
      by_state true active =
          by_size pair (document_at tree document).root (framed_size tree screen (view_of tree screen) (document_at tree document).frame)
          (view_is tree framed screen document active) (size ∙ sym (viewport_found tree screen document _ refl))

  pub root_found : IsRootOf tree document root
  root_found = framed.owners.roots document root (view_root tree screen document root shown)
