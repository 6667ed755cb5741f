-- Chains of containers on a page: they lead outwards, and from a target that isn't apart from a root they lead to it.
use Rattle.std.proofs.Common.{◌≡◌, ◌≤◌, ◌⊎◌, inl, inr, ℕ, zero, suc, Bool, true, false, cond, List, [], ◌∷◌, ◌++◌, length, Option, Some, None, refl, ap, sym, subst, ◌∙◌, nat_eq, eqb-true, arith}
use Rattle.std.proofs.lemmas.Bool.Decides.{nat_tests}
use Rattle.std.specs.Prelude.{◌||◌, not, ◌==◌, option_map}
use Rattle.layout_model.specs.Nodes.{Holder, HeldByElement, HeldByPage, HeldByScreen, holder, element_of, held, is_in_path}
use Rattle.layout_model.proofs.Ancestors.{in_child, in_top}
use Rattle.layout_model.proofs.Holders.{holder_less, holder_cases, held_shallow}
use Rattle.layout_model.proofs.Paths.{depth_least}
use Rattle.page_model.specs.World.{Screen, Tree, Scrolls, Root, ImplicitRoot, DocumentRoot, ElementRoot, InElement}
use Rattle.page_model.specs.Lookups.{element_at, document_at}
use Rattle.page_model.specs.Documents.{first_of_list, nodes_of, tree_document, element_depth}
use Rattle.page_model.specs.PageBoxes.{has_box}
use Rattle.page_model.specs.Shown.{shown_with}
use Rattle.page_model.specs.Chains.{container_held, holding}
use Rattle.page_model.specs.Findings.{is_on_chain, is_apart}
use Rattle.page_documents.specs.Paths.{owner_of, way_above, way_down}
use Rattle.page_documents.specs.Frames.{AreFramed}
use Rattle.element_tree.specs.declared.container.Container.{Container}
use Rattle.element_tree.specs.declared.container.Container.TheVariants.{Element, Document}
use Rattle.clip_chain.specs.Scenes.{Scene}
use Rattle.clip_chain.specs.Chains.{Leads, IsAbove}
use Rattle.clip_chain.specs.Worlds.{element_spot, spot_of, spot_of_root, scene_of, view_spot}
use Rattle.clip_chain.proofs.Leading.{above_inwards}
use Rattle.page_geometry.proofs.Standing.{active, boxed_document, holder_boxed, holder_document, frame_boxed}
use Rattle.page_geometry.proofs.Levels.{count_is}
use Rattle.page_boxes.proofs.Views.{way_less, no_way}

abbrev number_of : Container → ℕ
number_of (Element node) = node.0
number_of (Document document) = document.0

node_number : (a b : Container) → a ≡ b → number_of a ≡ number_of b
node_number a b same = ap number_of same

number_same : (a b : ℕ) → a ≡ b → nat_eq a b ≡ true
number_same a b same = grind (arith, nat_tests)

-- spots are the same or not
spot_same : (a b : Container) → (a ≡ b) ⊎ (¬ a ≡ b)
spot_same (Element a) (Element b) = by_number (nat_eq a.0 b.0) refl
  where
    by_number : (same : Bool) → nat_eq a.0 b.0 ≡ same → (Element a ≡ Element b) ⊎ (¬ Element a ≡ Element b)
    by_number true is = inl (ap element_spot (eqb-true a.0 b.0 is))
    by_number false is = inr (λ same. let clash : nat_eq a.0 b.0 ≡ true = number_same a.0 b.0 (node_number (Element a) (Element b) same) in let no : true ≡ false = sym clash ∙ is in cc)
spot_same (Element a) (Document b) = inr (λ same. cc)
spot_same (Document a) (Element b) = inr (λ same. cc)
spot_same (Document a) (Document b) = by_number (nat_eq a.0 b.0) refl
  where
    by_number : (same : Bool) → nat_eq a.0 b.0 ≡ same → (Document a ≡ Document b) ⊎ (¬ Document a ≡ Document b)
    by_number true is = inl (ap view_spot (eqb-true a.0 b.0 is))
    by_number false is = inr (λ same. let clash : nat_eq a.0 b.0 ≡ true = number_same a.0 b.0 (node_number (Document a) (Document b) same) in let no : true ≡ false = sym clash ∙ is in cc)

-- a root above what is above a spot is above it
over : (scene : Scene) (low high from : Container) (between : List Container) → Leads scene from between low → (¬ low ≡ high) → IsAbove scene high low → IsAbove scene high from
over scene low high from [] leads apart above = above_inwards scene high from low leads apart above
over scene low high from (next ∷ others) leads apart above =
    elim (spot_same next high) [
      | inl same ↦ ([], leads.0 ∙ ap Some same)
      | inr differs ↦ above_inwards scene high from next leads.0 differs (over scene low high next others leads.2 apart above)
    ]

some_same : (a b : ℕ) → Some a ≡ Some b → a ≡ b
some_same a b is = cc

not_false : (b : Bool) → not b ≡ false → b ≡ true
not_false true is = refl
not_false false is = cc

second_true : (a b c d : Bool) → (not a || not b || c || d) ≡ false → b ≡ true
second_true true true c d is = refl
second_true true false c d is = cc
second_true false b c d is = cc

proper_is : (same inside : Bool) → cond same false inside ≡ true → (same ≡ false) × (inside ≡ true)
proper_is true inside is = absurd (let no : ⊥ = cc in no)
proper_is false inside is = (refl, is)

module _ (tree : Tree) (screen : Screen) (scrolls : Scrolls) (framed : AreFramed tree) where
  abbrev scene : Scene
  scene = scene_of (shown_with tree screen scrolls)

  abbrev own : ℕ → ℕ
  own n = (element_at tree n).document

  -- what holds an element's box
  module _ (n : ℕ) (boxed : has_box tree screen n ≡ true) where
    pub in_holder : (h : ℕ) → holder (nodes_of tree) n ≡ HeldByElement h → scene.container (element_spot n) ≡ Some (element_spot h)
    in_holder h is =
        ap (λ b. cond b (option_map spot_of (holding tree n)) None) boxed
        ∙ ap (λ by. option_map spot_of (container_held by (tree_document tree n))) is

    viewport_by : (by : Holder) → element_of by ≡ None → option_map spot_of (container_held by (Some (own n))) ≡ Some (view_spot (own n))
    viewport_by (HeldByElement h) none = cc
    viewport_by HeldByPage none = refl
    viewport_by HeldByScreen none = refl

    pub in_view : element_of (holder (nodes_of tree) n) ≡ None → scene.container (element_spot n) ≡ Some (view_spot (own n))
    in_view none =
        ap (λ b. cond b (option_map spot_of (holding tree n)) None) boxed
        ∙ ap (λ o. option_map spot_of (container_held (holder (nodes_of tree) n) o)) (boxed_document tree screen framed n boxed)
        ∙ viewport_by (holder (nodes_of tree) n) none

  pub in_frame : (document frame : ℕ) → (document_at tree document).frame ≡ Some frame → scene.container (view_spot document) ≡ Some (element_spot frame)
  in_frame document frame is = ap (λ o. option_map spot_of (option_map InElement o)) is

  depth_falls : (most n h : ℕ) → element_depth tree n ≤ suc most → holder (nodes_of tree) n ≡ HeldByElement h → element_depth tree h ≤ most
  unfolding element_depth
  depth_falls most n h short is = omega (arith, holder_less (nodes_of tree) framed.trees.shallow n h is)

  depth_some : (n : ℕ) → 1 ≤ element_depth tree n
  unfolding element_depth
  depth_some n = depth_least (nodes_of tree) n

  -- the viewport of its document is above it
  to_view : (most n : ℕ) → element_depth tree n ≤ most → has_box tree screen n ≡ true → IsAbove scene (view_spot (own n)) (element_spot n)
  to_view zero n short boxed = absurd (omega (arith, depth_some n))
  to_view (suc most) n short boxed =
      elim (holder_cases (nodes_of tree) n) [
        | inl none ↦ ([], in_view n boxed none)
        | inr h ↦ above_inwards scene (view_spot (own n)) (element_spot n) (element_spot h.0) (in_holder n boxed h.0 h.1) (λ same. cc)
            (subst (λ d. IsAbove scene (view_spot d) (element_spot h.0)) (holder_document tree screen framed n h.0 h.1)
            (to_view most h.0 (depth_falls most n h.0 short h.1) (holder_boxed tree screen framed n h.0 h.1 boxed)))
      ]

  -- so is an element among those that hold it
  or_false : (b : Bool) → (b || false) ≡ b
  or_false true = refl
  or_false false = refl

  held_step : (a n : ℕ) → is_in_path (held (nodes_of tree)) a n ≡ true → nat_eq a n ≡ false
      → (h : ℕ) × (holder (nodes_of tree) n ≡ HeldByElement h) × (is_in_path (held (nodes_of tree)) a h ≡ true)
  held_step a n inside differs =
      elim (holder_cases (nodes_of tree) n) [
        | inl none ↦
            let clash : true ≡ false =
            sym inside ∙ in_top (held (nodes_of tree)) (held_shallow (nodes_of tree) framed.trees.shallow) a n none ∙ or_false (nat_eq a n) ∙ differs in
            absurd (let no : ⊥ = cc in no)
        | inr h ↦ (
          h.0,
          h.1,
          sym (in_child (held (nodes_of tree)) (held_shallow (nodes_of tree) framed.trees.shallow) a n h.0 (ap element_of h.1)
              ∙ ap (λ b. b || is_in_path (held (nodes_of tree)) a h.0) differs)
              ∙ inside,
        )
      ]

  below_step : (a n : ℕ) → has_box tree screen n ≡ true → is_in_path (held (nodes_of tree)) a n ≡ true
      → ((h : ℕ) → holder (nodes_of tree) n ≡ HeldByElement h → is_in_path (held (nodes_of tree)) a h ≡ true → (a ≡ h) ⊎ IsAbove scene (element_spot a) (element_spot h))
      → (same : Bool) → nat_eq a n ≡ same → (a ≡ n) ⊎ IsAbove scene (element_spot a) (element_spot n)
  below_step a n boxed inside up true same = inl (eqb-true a n same)
  below_step a n boxed inside up false differs =
      let found = held_step a n inside differs in
      let h = found.0 in
      let out = in_holder n boxed h found.1 in
      elim (up h found.1 found.2) [
        | inl same ↦ inr ([], out ∙ ap (λ m. Some (element_spot m)) (sym same))
        | inr above ↦ inr (elim (spot_same (element_spot h) (element_spot a)) [
          | inl same ↦ ([], out ∙ ap Some same)
          | inr apart ↦ above_inwards scene (element_spot a) (element_spot n) (element_spot h) out apart above
        ])
      ]

  to_holder : (most a n : ℕ) → element_depth tree n ≤ most → has_box tree screen n ≡ true → is_in_path (held (nodes_of tree)) a n ≡ true
      → (a ≡ n) ⊎ IsAbove scene (element_spot a) (element_spot n)
  to_holder zero a n short boxed inside = absurd (omega (arith, depth_some n))
  to_holder (suc most) a n short boxed inside =
      below_step a n boxed inside
      (λ h is. to_holder most a h (depth_falls most n h short is) (holder_boxed tree screen framed n h is boxed))
      (nat_eq a n) refl

  -- and the viewport of `top`
  way_unframed : (high document : ℕ) → (document_at tree document).frame ≡ None → first_of_list (way_down (suc high) tree document) ≡ Some document
  unfolding way_down
  way_unframed high document is = ap (λ frame. first_of_list (way_above (way_down high tree) (owner_of tree frame) ++ document ∷ [])) is

  not_top : (document frame : ℕ) → (document_at tree document).frame ≡ Some frame → ¬ view_spot document ≡ view_spot 0
  not_top document frame is = λ same.
      let at : document ≡ 0 = node_number (view_spot document) (view_spot 0) same in
      let clash : None ≡ Some frame = sym framed.top.unframed ∙ ap (λ d. (document_at tree d).frame) (sym at) ∙ is in cc

  top_step : (n : ℕ) → has_box tree screen n ≡ true → IsAbove scene (view_spot (own n)) (element_spot n) → (high : ℕ) → first_of_list (way_down (suc high) tree (own n)) ≡ Some 0
      → ((frame : ℕ) → (document_at tree (own n)).frame ≡ Some frame → IsAbove scene (view_spot 0) (element_spot frame))
      → (frame : Option ℕ) → (document_at tree (own n)).frame ≡ frame → IsAbove scene (view_spot 0) (element_spot n)
  top_step n boxed below high leads up None is =
      let at : own n ≡ 0 = some_same (own n) 0 (sym (way_unframed high (own n) is) ∙ leads) in
      subst (λ d. IsAbove scene (view_spot d) (element_spot n)) at below
  top_step n boxed below high leads up (Some frame) is =
      over scene (view_spot (own n)) (view_spot 0) (element_spot n) below.0 below.1 (not_top (own n) frame is)
      (above_inwards scene (view_spot 0) (view_spot (own n)) (element_spot frame) (in_frame (own n) frame is) (λ same. cc) (up frame is))

  to_top : (high n : ℕ) → has_box tree screen n ≡ true → first_of_list (way_down (suc high) tree (own n)) ≡ Some 0 → IsAbove scene (view_spot 0) (element_spot n)
  to_top zero n boxed leads =
      top_step n boxed (to_view (element_depth tree n) n (omega arith) boxed) 0 leads
      (λ frame is. absurd (no_way tree framed 0 (own frame) refl (way_less tree framed (own n) frame is 1 0 refl leads)))
      (document_at tree (own n)).frame refl
  to_top (suc high) n boxed leads =
      top_step n boxed (to_view (element_depth tree n) n (omega arith) boxed) (suc high) leads
      (λ frame is. to_top high frame (frame_boxed tree screen n boxed framed frame is) (way_less tree framed (own n) frame is (suc (suc high)) (suc high) refl leads))
      (document_at tree (own n)).frame refl

  -- a root that a target isn't apart from is above it
  pub above : (root : Root) (n : ℕ) → has_box tree screen n ≡ true → is_apart (shown_with tree screen scrolls) root n ≡ false → IsAbove scene (spot_of_root root) (element_spot n)
  above ImplicitRoot n boxed near =
      let counted = count_is tree framed (own n) (active tree screen n boxed) (length tree.documents) refl in
      to_top counted.0 n boxed counted.2
  above (DocumentRoot document) n boxed near =
      subst (λ d. IsAbove scene (view_spot d) (element_spot n)) (eqb-true (own n) document (not_false (own n == document) near))
      (to_view (element_depth tree n) n (omega arith) boxed)
  above (ElementRoot a) n boxed near =
      let proper : is_on_chain tree a n ≡ true = second_true (own n == own a) (is_on_chain tree a n) (not (has_box tree screen a)) (not (has_box tree screen n)) near in
      let kept = proper_is (a == n) (is_in_path (held (nodes_of tree)) a n) proper in
      elim (to_holder (element_depth tree n) a n (omega arith) boxed kept.1) [
        | inl same ↦ absurd (let clash : true ≡ false = sym (number_same a n same) ∙ kept.0 in let no : ⊥ = cc in no)
        | inr found ↦ found
      ]
