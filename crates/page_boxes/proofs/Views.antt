-- What documents show: a document in a frame shows its root element in the box of the frame, and the frame's box comes from what
-- the document around it shows. From an Active document the frames lead up to `top`, so that it makes no difference how many are
-- looked at, once they are enough.
use Rattle.std.proofs.Common.{◌≡◌, ◌≢◌, ◌<◌, ◌≤◌, ℕ, zero, suc, Bool, true, false, cond, List, [], ◌∷◌, ◌++◌, length, Option, Some, None, option_map, unwrap_or, slice_get, refl, ap, sym, ◌∙◌, arith}
use Rattle.std.specs.Prelude.{is_some}
use Rattle.layout_model.specs.Boxes.{Inputs, box_in, content_size}
use Rattle.layout_model.specs.Views.{View, inputs_in_view}
use Rattle.page_model.specs.World.{DocumentState, Fresh, Active, Dead, Element, Screen, Tree}
use Rattle.page_model.specs.Lookups.{element_at, document_at, no_element}
use Rattle.page_model.specs.Documents.{first_of_list, is_active_state, is_active, nodes_of}
use Rattle.page_model.specs.PageBoxes.{no_view, framed_size, view_with, view_if_active, view_up, view_of}
use Rattle.page_documents.specs.Paths.{owner_of, holder_of, way_above, way_down, path_to}
use Rattle.page_documents.specs.Frames.{AreFramed}

module _ (tree : Tree) (screen : Screen) where
  -- one frame more
  view_step : (high less document : ℕ) → high ≡ suc less
      → view_up high tree screen document ≡ view_if_active tree screen (view_up less tree screen) document (document_at tree document).state
  unfolding view_up
  view_step high less document is = ap (λ h. view_up h tree screen document) is

  pub view_none : (high document : ℕ) → high ≡ 0 → view_up high tree screen document ≡ no_view
  unfolding view_up
  view_none high document is = ap (λ h. view_up h tree screen document) is

  idle : (state : DocumentState) (views : ℕ → View) (document : ℕ) → is_active_state state ≡ false → view_if_active tree screen views document state ≡ no_view
  idle Fresh views document none = refl
  idle Active views document none = cc
  idle Dead views document none = refl

  lively : (state : DocumentState) (views : ℕ → View) (document : ℕ) → is_active_state state ≡ true → view_if_active tree screen views document state
      ≡ view_with (document_at tree document).root (framed_size tree screen views (document_at tree document).frame)
  lively Fresh views document active = cc
  lively Active views document active = refl
  lively Dead views document active = cc

  -- a document that isn't Active shows nothing
  pub view_idle : (high document : ℕ) → is_active tree document ≡ false → view_up high tree screen document ≡ no_view
  view_idle zero document none = view_none 0 document refl
  view_idle (suc high) document none = view_step (suc high) high document refl ∙ idle (document_at tree document).state (view_up high tree screen) document none

  pub view_lively : (high less document : ℕ) → high ≡ suc less → is_active tree document ≡ true → view_up high tree screen document
      ≡ view_with (document_at tree document).root (framed_size tree screen (view_up less tree screen) (document_at tree document).frame)
  view_lively high less document is active =
      view_step high less document is ∙ lively (document_at tree document).state (view_up less tree screen) document active

  pub view_whole : (document : ℕ) → view_up 65536 tree screen document ≡ view_of tree screen document
  unfolding view_of
  view_whole document = refl

  -- the root element in a view is that of the document
  shown_only : (root : Option ℕ) (found : Option (ℕ × ℕ)) (r : ℕ) → (view_with root found).root ≡ Some r → root ≡ Some r
  shown_only root None r is = cc
  shown_only root (Some pair) r is = is

  pub view_root : (document r : ℕ) → (view_of tree screen document).root ≡ Some r → (document_at tree document).root ≡ Some r
  view_root document r is = by_state (is_active tree document) refl
    where
      by_state : (active : Bool) → is_active tree document ≡ active → (document_at tree document).root ≡ Some r
      by_state true active =
          shown_only (document_at tree document).root (framed_size tree screen (view_up 65535 tree screen) (document_at tree document).frame) r
          (sym (ap (λ (view : View). view.root) (sym (view_whole document) ∙ view_lively 65536 65535 document refl active)) ∙ is)
      by_state false none =
          let nothing : None ≡ Some r = sym (ap (λ (view : View). view.root) (sym (view_whole document) ∙ view_idle 65536 document none)) ∙ is in cc

  -- the size of a viewport rests on the view around it alone
  pub size_same : (views others : ℕ → View) (frame : Option ℕ)
      → ((n : ℕ) → frame ≡ Some n → views (element_at tree n).document ≡ others (element_at tree n).document)
      → framed_size tree screen views frame ≡ framed_size tree screen others frame
  size_same views others None same = refl
  size_same views others (Some n) same =
      ap (λ view. option_map (λ inputs. content_size (box_in (nodes_of tree) inputs n)) (inputs_in_view (nodes_of tree) view n)) (same n refl)

  -- the root element that an Active document shows
  module _ (high less document : ℕ) (more : high ≡ suc less) (active : is_active tree document ≡ true) where
    pub boxed_size : (view : View) (n : ℕ) (boxed : Bool) → is_some (inputs_in_view (nodes_of tree) view n) ≡ boxed → (root : Option ℕ)
        → (view_with root (option_map (λ inputs. content_size (box_in (nodes_of tree) inputs n)) (inputs_in_view (nodes_of tree) view n))).root ≡ cond boxed root None
    boxed_size view n boxed is root =
        by_inputs (inputs_in_view (nodes_of tree) view n) ∙ ap (λ b. cond b root None) is
      where
        by_inputs : (found : Option Inputs)
            → (view_with root (option_map (λ inputs. content_size (box_in (nodes_of tree) inputs n)) found)).root ≡ cond (is_some found) root None
        by_inputs None = refl
        by_inputs (Some inputs) = refl

    by_frame : (frame : Option ℕ) → (document_at tree document).frame ≡ frame
        → (view_up high tree screen document).root ≡ (view_with (document_at tree document).root (framed_size tree screen (view_up less tree screen) frame)).root
    by_frame frame is =
        ap (λ (view : View). view.root) (view_lively high less document more active)
        ∙ ap (λ f. (view_with (document_at tree document).root (framed_size tree screen (view_up less tree screen) f)).root) is

    pub root_unframed : (document_at tree document).frame ≡ None → (view_up high tree screen document).root ≡ (document_at tree document).root
    root_unframed none = by_frame None none

    pub root_framed : (frame : ℕ) → (document_at tree document).frame ≡ Some frame → (boxed : Bool)
        → is_some (inputs_in_view (nodes_of tree) (view_up less tree screen (element_at tree frame).document) frame) ≡ boxed
        → (view_up high tree screen document).root ≡ cond boxed (document_at tree document).root None
    root_framed frame is boxed there =
        by_frame (Some frame) is ∙ boxed_size (view_up less tree screen (element_at tree frame).document) frame boxed there (document_at tree document).root

-- a frame is there, and what it is in holds its document
module _ (tree : Tree) (framed : AreFramed tree) where
  there : (found : Option Element) (document : ℕ) → (unwrap_or found no_element).framed ≡ Some document → (element : Element) × (found ≡ Some element)
  there None document is = cc
  there (Some element) document is = (element, refl)

  listed : (elements : List Element) (n : ℕ) (element : Element) → slice_get elements n ≡ Some element → n < length elements
  listed [] n element is = cc
  listed (x ∷ elements) zero element is = omega arith
  listed (x ∷ elements) (suc n) element is = let below : n < length elements = listed elements n element is in omega arith

  module _ (document frame : ℕ) (is : (document_at tree document).frame ≡ Some frame) where
    found : (element : Element) × (slice_get tree.elements frame ≡ Some element)
    found = there (slice_get tree.elements frame) document (framed.owners.frames document frame is)

    pub frame_known : frame < length tree.elements
    frame_known = listed tree.elements frame found.0 found.1

    holder_is : holder_of tree document ≡ Some (element_at tree frame).document
    holder_is =
        ap (owner_of tree) is
        ∙ ap (option_map (λ (element : Element). element.document)) found.1
        ∙ ap (λ (it : Option Element). Some (unwrap_or it no_element).document) (sym found.1)

    not_top : document ≢ 0
    not_top same =
        let nothing : None ≡ Some frame = sym framed.top.unframed ∙ ap (λ d. (document_at tree d).frame) (sym same) ∙ is in cc

    first_still : (way : List ℕ) → first_of_list (way ++ document ∷ []) ≡ Some 0 → first_of_list way ≡ Some 0
    first_still [] first = absurd (not_top (let same : document ≡ 0 = cc in same))
    first_still (d ∷ way) first = first

    pub way_step : (high less : ℕ) → high ≡ suc less → way_down high tree document ≡ way_down less tree (element_at tree frame).document ++ document ∷ []
    unfolding way_down
    way_step high less more =
        ap (λ h. way_down h tree document) more
        ∙ ap (λ holder. way_above (way_down less tree) holder ++ document ∷ []) holder_is

    -- the way to the document around it leads up to `top` too
    pub way_less : (high less : ℕ) → high ≡ suc less → first_of_list (way_down high tree document) ≡ Some 0
        → first_of_list (way_down less tree (element_at tree frame).document) ≡ Some 0
    way_less high less more first =
        first_still (way_down less tree (element_at tree frame).document) (sym (ap first_of_list (way_step high less more)) ∙ first)

  pub no_way : (high document : ℕ) → high ≡ 0 → first_of_list (way_down high tree document) ≡ Some 0 → ⊥
  unfolding way_down
  no_way high document none first =
      let nothing : None ≡ Some 0 = sym (ap (λ h. first_of_list (way_down h tree document)) none) ∙ first in cc

  pub path_leads : (document : ℕ) → is_active tree document ≡ true → first_of_list (way_down (length tree.documents) tree document) ≡ Some 0
  unfolding path_to
  path_leads document active = framed.leads document active

  -- it isn't looked at any further than there are frames
  module _ (screen : Screen) where
    none_steady : (document : ℕ) → (is_active tree document ≡ true → first_of_list (way_down 0 tree document) ≡ Some 0)
        → (high : ℕ) → view_up high tree screen document ≡ view_up (suc high) tree screen document
    none_steady document leads high = by_state (is_active tree document) refl
      where
        by_state : (active : Bool) → is_active tree document ≡ active → view_up high tree screen document ≡ view_up (suc high) tree screen document
        by_state false none = view_idle tree screen high document none ∙ sym (view_idle tree screen (suc high) document none)
        by_state true active = absurd (no_way 0 document refl (leads active))

    one_steady : (high document : ℕ)
        → (is_active tree document ≡ true → (frame : ℕ) → (document_at tree document).frame ≡ Some frame
        → view_up high tree screen (element_at tree frame).document ≡ view_up (suc high) tree screen (element_at tree frame).document)
        → view_up (suc high) tree screen document ≡ view_up (suc (suc high)) tree screen document
    one_steady high document same = by_state (is_active tree document) refl
      where
        by_state : (active : Bool) → is_active tree document ≡ active → view_up (suc high) tree screen document ≡ view_up (suc (suc high)) tree screen document
        by_state false none = view_idle tree screen (suc high) document none ∙ sym (view_idle tree screen (suc (suc high)) document none)
        by_state true active =
            view_lively tree screen (suc high) high document refl active
            ∙ ap (view_with (document_at tree document).root)
            (size_same tree screen (view_up high tree screen) (view_up (suc high) tree screen) (document_at tree document).frame (same active))
            ∙ sym (view_lively tree screen (suc (suc high)) (suc high) document refl active)

    steady : (most document : ℕ) → (is_active tree document ≡ true → first_of_list (way_down most tree document) ≡ Some 0)
        → (high : ℕ) → most ≤ high → view_up high tree screen document ≡ view_up (suc high) tree screen document
    steady zero document leads high enough = none_steady document leads high
    steady (suc most) document leads zero enough = absurd (omega arith)
    steady (suc most) document leads (suc high) enough =
        one_steady high document
        (λ active frame is. steady most (element_at tree frame).document (λ held. way_less document frame is (suc most) most refl (leads active)) high (omega arith))

    -- the view of an Active document, by the view around it
    pub view_is : (document : ℕ) → is_active tree document ≡ true
        → view_of tree screen document ≡ view_with (document_at tree document).root (framed_size tree screen (view_of tree screen) (document_at tree document).frame)
    view_is document active =
        sym (view_whole tree screen document)
        ∙ view_lively tree screen 65536 65535 document refl active
        ∙ ap (view_with (document_at tree document).root)
        (size_same tree screen (view_up 65535 tree screen) (view_of tree screen) (document_at tree document).frame
        (λ frame is. around frame is (length tree.documents) refl))
      where
        around : (frame : ℕ) → (document_at tree document).frame ≡ Some frame → (count : ℕ) → length tree.documents ≡ count
            → view_up 65535 tree screen (element_at tree frame).document ≡ view_of tree screen (element_at tree frame).document
        around frame is zero count = absurd (no_way (length tree.documents) document count (path_leads document active))
        around frame is (suc less) count =
            let few : suc less ≤ 65536 = omega (arith, framed.few, count) in
            steady less (element_at tree frame).document (λ held. way_less document frame is (length tree.documents) less count (path_leads document active)) 65535 (omega arith)
            ∙ view_whole tree screen (element_at tree frame).document
