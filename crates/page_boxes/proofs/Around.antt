-- What is left as it is where a document and those around it are laid out.
use Rattle.std.proofs.Common.{◌≡◌, ◌≤◌, ℕ, zero, suc, false, List, [], ◌∷◌, ◌++◌, Option, Some, None, refl, ap, sym, subst, ◌∙◌, arith}
use Rattle.std.proofs.lemmas.Bool.{or_parts}
use Rattle.std.proofs.lemmas.List.Folds.{list_any-append}
use Rattle.std.specs.Prelude.{◌||◌, ◌==◌}
use Rattle.page_model.specs.World.{Tree}
use Rattle.page_model.specs.Lookups.{element_at, document_at, is_listed}
use Rattle.page_documents.specs.Frames.{AreFramed}
use Rattle.page_documents.specs.Paths.{owner_of, holder_of, way_above, way_down}
use Rattle.page_documents.proofs.Ways.{way_none}
use Rattle.kept_layout.specs.declared.slots.Slot.{Slot}
use Rattle.page_boxes.specs.LaidOut.{ChangesOnlyIn}
use Rattle.page_boxes.proofs.Views.{way_step}

-- a document that is none of these
none_of : (d : ℕ) (xs ys : List ℕ) → is_listed d (xs ++ ys) ≡ false → (is_listed d xs ≡ false) × (is_listed d ys ≡ false)
none_of d xs ys none = or_parts (is_listed d xs) (is_listed d ys) (sym (list_any-append (λ x. x == d) xs ys) ∙ none)

module _ (tree : Tree) where
  -- where it is none of so many above a document, it is none of fewer
  none_above : (d low high : ℕ) → ((holder : ℕ) → is_listed d (way_down high tree holder) ≡ false → is_listed d (way_down low tree holder) ≡ false)
      → (found : Option ℕ) → is_listed d (way_above (way_down high tree) found) ≡ false → is_listed d (way_above (way_down low tree) found) ≡ false
  none_above d low high each None none = refl
  none_above d low high each (Some holder) none = each holder none

  none_fewer : (d low high document : ℕ) → low ≤ high → is_listed d (way_down high tree document) ≡ false → is_listed d (way_down low tree document) ≡ false
  unfolding way_down
  none_fewer d zero high document fewer none = refl
  none_fewer d (suc low) zero document fewer none = absurd (omega arith)
  none_fewer d (suc low) (suc high) document fewer none =
      let parts = none_of d (way_above (way_down high tree) (holder_of tree document)) (document ∷ []) none in
      list_any-append (λ x. x == d) (way_above (way_down low tree) (holder_of tree document)) (document ∷ [])
      ∙ ap (λ b. b || is_listed d (document ∷ []))
      (none_above d low high (λ holder its. none_fewer d low high holder (omega arith) its) (holder_of tree document) parts.0)
      ∙ parts.1

  pub changes_more : (low high document : ℕ) (first last : List Slot) → low ≤ high → ChangesOnlyIn tree (way_down low tree document) first last
      → ChangesOnlyIn tree (way_down high tree document) first last
  changes_more low high document first last fewer changes n none = changes n (none_fewer (element_at tree n).document low high document fewer none)

  -- on the way to a document first those on the way to the one that its frame is in, then itself
  module _ (document high less : ℕ) (more : high ≡ suc less) where
    pub changes_on : (framed : AreFramed tree) (frame : ℕ) → (document_at tree document).frame ≡ Some frame → (first mid last : List Slot)
        → ChangesOnlyIn tree (way_down less tree (element_at tree frame).document) first mid → ChangesOnlyIn tree (document ∷ []) mid last
        → ChangesOnlyIn tree (way_down high tree document) first last
    changes_on framed frame is first mid last begun own n none =
        let parts =
        none_of (element_at tree n).document (way_down less tree (element_at tree frame).document) (document ∷ [])
        (ap (is_listed (element_at tree n).document) (sym (way_step tree framed document frame is high less more)) ∙ none) in
        own n parts.1 ∙ begun n parts.0

    pub changes_first : (document_at tree document).frame ≡ None → (first last : List Slot) → ChangesOnlyIn tree (document ∷ []) first last
        → ChangesOnlyIn tree (way_down high tree document) first last
    changes_first is first last own =
        subst (λ way. ChangesOnlyIn tree way first last) (sym (ap (λ h. way_down h tree document) more ∙ way_none tree less document (ap (owner_of tree) is))) own
