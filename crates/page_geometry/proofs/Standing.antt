-- What an element that has a box stands in: its node document, in whose tree it is, is Active, and its parent, what holds its box and the
-- frame around have boxes.
use Rattle.std.proofs.Common.{◌≡◌, ℕ, Bool, true, false, cond, Option, Some, None, refl, ap, sym, ◌∙◌}
use Rattle.std.specs.Prelude.{◌&&◌, not, is_some, option_map}
use Rattle.std.proofs.lemmas.Bool.{and_parts}
use Rattle.layout_model.specs.Boxes.{Inputs, box_in, content_size}
use Rattle.layout_model.specs.Clips.{is_block}
use Rattle.layout_model.specs.Nodes.{HeldByElement, holder}
use Rattle.layout_model.specs.Views.{inputs_in_view}
use Rattle.layout_model.proofs.Ancestors.{up_path}
use Rattle.layout_model.proofs.Holders.{holder_above}
use Rattle.page_model.specs.World.{Screen, Tree}
use Rattle.page_model.specs.Lookups.{element_at, document_at}
use Rattle.page_model.specs.Documents.{nodes_of, is_active, is_root_element, tree_document}
use Rattle.page_model.specs.PageBoxes.{no_view, framed_size, view_with, view_of, has_box}
use Rattle.page_documents.specs.Frames.{AreFramed}
use Rattle.page_documents.proofs.Lists.{number_is, its_number}
use Rattle.page_documents.proofs.Shape.{from_parents, itself_below, child_below}
use Rattle.page_documents.proofs.Standing.{document_top, document_below}
use Rattle.page_boxes.proofs.Boxed.{boxed_below, boxed_top}
use Rattle.page_boxes.proofs.Views.{view_idle, view_whole, view_root, view_is}
use Rattle.page_boxes.proofs.Renewed.{none_is}

none_in : (tree : Tree) (n : ℕ) → is_some (inputs_in_view (nodes_of tree) no_view n) ≡ false
unfolding inputs_in_view
none_in tree n = refl

pub last_true : (a b c : Bool) → (a && b && c) ≡ true → c ≡ true
last_true true true c is = is
last_true true false c is = cc
last_true false b c is = cc

module _ (tree : Tree) (screen : Screen) where
  pub boxed_in : (n : ℕ) → has_box tree screen n ≡ is_some (inputs_in_view (nodes_of tree) (view_of tree screen (element_at tree n).document) n)
  unfolding has_box
  boxed_in n = refl

  -- a view that shows nothing
  module _ (n : ℕ) (boxed : has_box tree screen n ≡ true) where
    shows : view_of tree screen (element_at tree n).document ≡ no_view → ⊥
    shows is =
        let clash : true ≡ false = sym boxed ∙ boxed_in n ∙ ap (λ view. is_some (inputs_in_view (nodes_of tree) view n)) is ∙ none_in tree n in cc

    pub active : is_active tree (element_at tree n).document ≡ true
    active = by_state (is_active tree (element_at tree n).document) refl
      where
        by_state : (b : Bool) → is_active tree (element_at tree n).document ≡ b → is_active tree (element_at tree n).document ≡ true
        by_state true is = is
        by_state false is = absurd (shows (sym (view_whole tree screen (element_at tree n).document) ∙ view_idle tree screen 65536 (element_at tree n).document is))

    module _ (framed : AreFramed tree) where
      pub parent_boxed : (p : ℕ) → (element_at tree n).parent ≡ Some p → has_box tree screen p ≡ true
      parent_boxed p is =
          boxed_in p
          ∙ ap (λ d. is_some (inputs_in_view (nodes_of tree) (view_of tree screen d) p)) (sym (framed.owners.owned n p is))
          ∙ last_true (not (nodes_of tree n).item.style.hidden) (is_block (nodes_of tree p).item.kind) _
          (sym (boxed_below (nodes_of tree) (view_of tree screen (element_at tree n).document) n p is (framed.trees.shallow p)) ∙ sym (boxed_in n) ∙ boxed)

      pub root_is : (element_at tree n).parent ≡ None → is_root_element tree n ≡ true
      root_is is =
          its_number (document_at tree (element_at tree n).document).root n
          (view_root tree screen (element_at tree n).document n
          (number_is (view_of tree screen (element_at tree n).document).root n
          ((and_parts (not (nodes_of tree n).item.style.hidden) _
          (sym (boxed_top (nodes_of tree) (view_of tree screen (element_at tree n).document) n is) ∙ sym (boxed_in n) ∙ boxed)).1)))

      pub frame_boxed : (frame : ℕ) → (document_at tree (element_at tree n).document).frame ≡ Some frame → has_box tree screen frame ≡ true
      frame_boxed frame is = by_box (has_box tree screen frame) refl
        where
          by_box : (b : Bool) → has_box tree screen frame ≡ b → has_box tree screen frame ≡ true
          by_box true there = there
          by_box false none = absurd (shows
              (view_is tree framed screen (element_at tree n).document active
              ∙ ap (λ f. view_with (document_at tree (element_at tree n).document).root (framed_size tree screen (view_of tree screen) f)) is
              ∙ ap (λ (found : Option Inputs). view_with (document_at tree (element_at tree n).document).root (option_map (λ inputs. content_size (box_in (nodes_of tree) inputs frame)) found))
              (none_is (inputs_in_view (nodes_of tree) (view_of tree screen (element_at tree frame).document) frame) (sym (boxed_in frame) ∙ none))))

  module _ (framed : AreFramed tree) where
    -- what has a box stands in the tree of its node document
    pub boxed_document : (n : ℕ) → has_box tree screen n ≡ true → tree_document tree n ≡ Some (element_at tree n).document
    boxed_document =
        from_parents tree framed.trees (λ k. has_box tree screen k ≡ true → tree_document tree k ≡ Some (element_at tree k).document)
        (λ k top boxed.
        document_top tree framed.trees k top
        ∙ ap (λ b. cond b (Some (element_at tree k).document) None) (root_is k boxed framed top))
        (λ k p is above boxed.
        document_below tree framed.trees framed.owners p k (child_below tree framed.trees p k p is (itself_below tree framed.trees p))
        ∙ above (parent_boxed k boxed framed p is)
        ∙ ap Some (sym (framed.owners.owned k p is)))

    -- an element that holds a box has one, and belongs to the same document
    module _ (n h : ℕ) (held : holder (nodes_of tree) n ≡ HeldByElement h) where
      pub holder_boxed : has_box tree screen n ≡ true → has_box tree screen h ≡ true
      holder_boxed boxed =
          up_path (nodes_of tree) framed.trees.shallow (λ m. has_box tree screen m ≡ true) (λ c p is there. parent_boxed c there framed p is) h n
          (holder_above (nodes_of tree) framed.trees.shallow n h held) boxed

      pub holder_document : (element_at tree h).document ≡ (element_at tree n).document
      holder_document =
          up_path (nodes_of tree) framed.trees.shallow (λ m. (element_at tree m).document ≡ (element_at tree n).document)
          (λ c p is same. sym (framed.owners.owned c p is) ∙ same) h n
          (holder_above (nodes_of tree) framed.trees.shallow n h held) refl
