-- What documents show and where their viewports begin, by as many frames as there can be.
use Rattle.std.proofs.Common.{◌≡◌, ◌≤◌, ℕ, zero, suc, Bool, true, false, length, Option, Some, None, inl, inr, refl, ap, sym, ◌∙◌, arith}
use Rattle.std.specs.Prelude.{is_some, option_map}
use Rattle.std.proofs.lemmas.Bool.{cases_Bool, false≢true}
use Rattle.px_units.specs.declared.Point.{Point}
use Rattle.layout_model.specs.Boxes.{box_in, content_size}
use Rattle.layout_model.specs.Views.{View, inputs_in_view}
use Rattle.page_model.specs.World.{DocumentState, Fresh, Active, Dead, Screen, Tree, World}
use Rattle.page_model.specs.Lookups.{element_at, document_at}
use Rattle.page_model.specs.Documents.{is_active, is_active_state, nodes_of}
use Rattle.page_model.specs.PageBoxes.{no_view, framed_size, view_with, view_if_active, view_up, view_of, inputs_of, has_box, box_of, place_of}
use Rattle.page_model.specs.Shown.{shown_of}
use Rattle.page_model.specs.Chains.{added, content_corner_at, origin_with_box, origin_by_frame, origin_up, origin}
use Rattle.page_documents.specs.Paths.{holder_of}
use Rattle.page_documents.proofs.Ways.{Reaches, no_way, reach_up, reach_more}
use Rattle.page_documents.proofs.Framed.{framed_held, unheld, reaches}
use Rattle.document_laws.specs.Levels.{IsWithinLevels}

-- documents lead up within as many frames as there are documents
module _ (tree : Tree) (levels : IsWithinLevels tree) where
  pub leads_up : (most document : ℕ) → 64 ≤ most → is_active tree document ≡ true → Reaches tree most document
  leads_up most document enough active =
      reach_more tree (unheld tree levels.framed) (length tree.documents) most document (omega (arith, levels.few, enough))
      (reaches tree levels.framed document active)

  pub holder_leads : (high document holder : ℕ) → holder_of tree document ≡ Some holder → Reaches tree (suc high) document → Reaches tree high holder
  holder_leads high document holder held reach = reach_up tree (unheld tree levels.framed) high document holder held reach

-- views -------------------------------------------------------------------------------------------------------------------------------------

module _ (tree : Tree) (screen : Screen) where
  idle_state : (state : DocumentState) (views : ℕ → View) (document : ℕ) → is_active_state state ≡ false →
      view_if_active tree screen views document state ≡ no_view
  idle_state Fresh views document none = refl
  idle_state Active views document none = cc
  idle_state Dead views document none = refl

  lively_state : (state : DocumentState) (views : ℕ → View) (document : ℕ) → is_active_state state ≡ true →
      view_if_active tree screen views document state ≡ view_with (document_at tree document).root (framed_size tree screen views (document_at tree document).frame)
  lively_state Fresh views document active = cc
  lively_state Active views document active = refl
  lively_state Dead views document active = cc

  -- a document that isn't Active shows nothing
  pub idle : (high document : ℕ) → is_active tree document ≡ false → view_up high tree screen document ≡ no_view
  unfolding view_up
  idle zero document none = refl
  idle (suc high) document none = idle_state ((document_at tree document).state) (view_up high tree screen) document none

  pub lively : (high document : ℕ) → is_active tree document ≡ true →
      view_up (suc high) tree screen document ≡ view_with (document_at tree document).root (framed_size tree screen (view_up high tree screen) (document_at tree document).frame)
  unfolding view_up
  lively high document active = lively_state ((document_at tree document).state) (view_up high tree screen) document active

  size_same : (views others : ℕ → View) (frame : Option ℕ) →
      ((n : ℕ) → frame ≡ Some n → views (element_at tree n).document ≡ others (element_at tree n).document) →
      framed_size tree screen views frame ≡ framed_size tree screen others frame
  size_same views others None same = refl
  size_same views others (Some n) same =
      ap (λ view. option_map (λ inputs. content_size (box_in (nodes_of tree) inputs n)) (inputs_in_view (nodes_of tree) view n)) (same n refl)

  pub view_whole : (document : ℕ) → view_of tree screen document ≡ view_up 65536 tree screen document
  unfolding view_of
  view_whole document = refl

  module _ (levels : IsWithinLevels tree) where
    view_step : (few more document : ℕ) → ((holder : ℕ) → (is_active tree holder ≡ true → Reaches tree few holder) →
        (is_active tree holder ≡ true → Reaches tree more holder) → view_up few tree screen holder ≡ view_up more tree screen holder) →
        (is_active tree document ≡ true → Reaches tree (suc few) document) → (is_active tree document ≡ true → Reaches tree (suc more) document) →
        view_up (suc few) tree screen document ≡ view_up (suc more) tree screen document
    view_step few more document each reach reach' = elim (cases_Bool (is_active tree document)) [
      | inl active ↦
          lively few document active
          ∙ ap (view_with (document_at tree document).root) (size_same (view_up few tree screen) (view_up more tree screen) ((document_at tree document).frame)
          (λ n is.
          let held = framed_held tree levels.framed.owners document n is in
          each ((element_at tree n).document)
          (λ up. holder_leads tree levels few document ((element_at tree n).document) held (reach active))
          (λ up. holder_leads tree levels more document ((element_at tree n).document) held (reach' active))))
          ∙ sym (lively more document active)
      | inr none ↦ idle (suc few) document none ∙ sym (idle (suc more) document none)
    ]

    -- a document from which no way leads isn't Active
    unled : (few more document : ℕ) → (is_active tree document ≡ true → ⊥) → view_up few tree screen document ≡ view_up more tree screen document
    unled few more document never = elim (cases_Bool (is_active tree document)) [
      | inl active ↦ absurd (never active)
      | inr none ↦ idle few document none ∙ sym (idle more document none)
    ]

    same_views : (few more document : ℕ) → (is_active tree document ≡ true → Reaches tree few document) →
        (is_active tree document ≡ true → Reaches tree more document) → view_up few tree screen document ≡ view_up more tree screen document
    same_views zero more document reach reach' = unled zero more document (λ active. no_way tree document (reach active))
    same_views (suc few) zero document reach reach' = unled (suc few) zero document (λ active. no_way tree document (reach' active))
    same_views (suc few) (suc more) document reach reach' =
        view_step few more document (λ holder one other. same_views few more holder one other) reach reach'

    pub views_whole : (most document : ℕ) → 64 ≤ most → view_up most tree screen document ≡ view_of tree screen document
    views_whole most document enough =
        same_views most 65536 document (leads_up tree levels most document enough) (leads_up tree levels 65536 document (omega arith))
        ∙ sym (view_whole document)

-- boxes ---------------------------------------------------------------------------------------------------------------------------------------

none_in : (tree : Tree) (n : ℕ) → is_some (inputs_in_view (nodes_of tree) no_view n) ≡ false
unfolding inputs_in_view
none_in tree n = refl

pub boxed_in : (tree : Tree) (screen : Screen) (n : ℕ) →
    has_box tree screen n ≡ is_some (inputs_in_view (nodes_of tree) (view_of tree screen (element_at tree n).document) n)
unfolding has_box inputs_of
boxed_in tree screen n = refl

pub boxed_active : (tree : Tree) (screen : Screen) (n : ℕ) → has_box tree screen n ≡ true → is_active tree (element_at tree n).document ≡ true
boxed_active tree screen n boxed = elim (cases_Bool (is_active tree (element_at tree n).document)) [
  | inl active ↦ active
  | inr none ↦
      absurd (false≢true (sym (none_in tree n)
      ∙ ap (λ view. is_some (inputs_in_view (nodes_of tree) view n))
      (sym (view_whole tree screen ((element_at tree n).document) ∙ idle tree screen 65536 ((element_at tree n).document) none))
      ∙ sym (boxed_in tree screen n) ∙ boxed))
]

-- where viewports begin -------------------------------------------------------------------------------------------------------------------

module _ (world : World) (levels : IsWithinLevels world.tree) where
  abbrev tree : Tree
  tree = world.tree

  abbrev around : ℕ → ℕ
  around frame = (element_at (world.tree) frame).document

  by_box : (above other : ℕ → Point) (frame : ℕ) (boxed : Bool) → (boxed ≡ true → above (around frame) ≡ other (around frame)) →
      origin_with_box above (shown_of world) boxed frame ≡ origin_with_box other (shown_of world) boxed frame
  by_box above other frame true same =
      ap (λ point. added (content_corner_at (place_of (world.tree) (world.viewports.screen) (world.scrolls) frame)
      (box_of (world.tree) (world.viewports.screen) frame)) point) (same refl)
  by_box above other frame false same = refl

  by_frame : (above other : ℕ → Point) (found : Option ℕ) →
      ((frame : ℕ) → found ≡ Some frame → is_active (world.tree) (around frame) ≡ true → above (around frame) ≡ other (around frame)) →
      origin_by_frame above (shown_of world) found ≡ origin_by_frame other (shown_of world) found
  by_frame above other None same = refl
  by_frame above other (Some frame) same =
      by_box above other frame (has_box (world.tree) (world.viewports.screen) frame)
      (λ boxed. same frame refl (boxed_active (world.tree) (world.viewports.screen) frame boxed))

  origin_step : (few more document : ℕ) →
      ((frame : ℕ) → (document_at (world.tree) document).frame ≡ Some frame → is_active (world.tree) (around frame) ≡ true →
      origin_up few (shown_of world) (around frame) ≡ origin_up more (shown_of world) (around frame)) → origin_up (suc few) (shown_of world) document ≡ origin_up (suc more) (shown_of world) document
  unfolding origin_up
  origin_step few more document same = by_frame (origin_up few (shown_of world)) (origin_up more (shown_of world)) ((document_at (world.tree) document).frame) same

  same_origins : (few more document : ℕ) → Reaches (world.tree) few document → Reaches (world.tree) more document →
      origin_up few (shown_of world) document ≡ origin_up more (shown_of world) document
  same_origins zero more document reach reach' = absurd (no_way (world.tree) document reach)
  same_origins (suc few) zero document reach reach' = absurd (no_way (world.tree) document reach')
  same_origins (suc few) (suc more) document reach reach' =
      origin_step few more document (λ frame is active.
      let held = framed_held (world.tree) levels.framed.owners document frame is in
      same_origins few more (around frame) (holder_leads (world.tree) levels few document (around frame) held reach)
      (holder_leads (world.tree) levels more document (around frame) held reach'))

  pub origins_whole : (most document : ℕ) → 65 ≤ most → origin_up most (shown_of world) document ≡ origin (shown_of world) document
  unfolding origin
  origins_whole zero document enough = absurd (omega (arith, enough))
  origins_whole (suc most) document enough =
      origin_step most 65535 document (λ frame is active.
      same_origins most 65535 (around frame) (leads_up (world.tree) levels most (around frame) (omega (arith, enough)) active)
      (leads_up (world.tree) levels 65535 (around frame) (omega arith) active))
