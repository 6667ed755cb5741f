-- What laying out the tree of a document's root element does: to the document, to the others and to what is kept.
use Rattle.std.proofs.Common.{◌≡◌, ◌≢◌, ◌<◌, ◌≤◌, ℕ, Bool, true, false, List, [], ◌∷◌, length, Option, Some, None, option_map, nat_eq, nat_lt, eqb-true, refl, ap, sym, subst, ◌∙◌, arith}
use Rattle.std.proofs.lemmas.Bool.Decides.{nat_tests}
use Rattle.std.specs.Prelude.{◌||◌, ◌==◌, is_some}
use Rattle.layout_model.specs.Nodes.{Node, is_among, is_in_path}
use Rattle.layout_model.specs.Boxes.{Inputs, inputs_in}
use Rattle.layout_model.specs.Views.{View, inputs_in_view}
use Rattle.layout_model.proofs.Paths.{path_top}
use Rattle.page_model.specs.World.{Element, Screen, Tree}
use Rattle.page_model.specs.Lookups.{element_at, document_at, is_listed}
use Rattle.page_model.specs.Documents.{nodes_of, is_active}
use Rattle.page_model.specs.PageBoxes.{view_with, framed_size, view_of, inputs_of}
use Rattle.page_documents.specs.Frames.{AreFramed}
use Rattle.block_layout.specs.Seen.{seen_inputs}
use Rattle.kept_layout.specs.declared.slots.Slot.{Slot}
use Rattle.kept_layout.specs.Fresh.{IsFresh as IsFreshAt}
use Rattle.kept_layout.specs.Slots.{slot_in}
use Rattle.kept_layout.specs.Sound.{IsSound, IsReady}
use Rattle.kept_layout.specs.Due.{is_due_at, is_due as is_due_with}
use Rattle.page_boxes.specs.Fresh.{IsFreshIn}
use Rattle.page_boxes.specs.Kept.{AreKept, LeavesUnboxed, is_due}
use Rattle.page_boxes.specs.LaidOut.{IsLaidOut, ChangesOnlyIn}
use Rattle.page_boxes.proofs.Parents.{some_found, child_boxed}
use Rattle.page_boxes.proofs.Owners.{owner_inside}
use Rattle.page_boxes.proofs.Rooted.{boxed_inside, inputs_from, rootless, rooted_in, top_only}
use Rattle.page_boxes.proofs.Views.{view_is, view_idle, view_whole, view_root}
use Rattle.page_boxes.proofs.Pages.{missing_element, absent_unboxed}

-- the inputs of an element are those that it has in the view of its document
pub inputs_found : (tree : Tree) (screen : Screen) (n document : ℕ) → (element_at tree n).document ≡ document → inputs_of tree screen n ≡ inputs_in_view (nodes_of tree) (view_of tree screen document) n
unfolding inputs_of
inputs_found tree screen n document owner = ap (λ d. inputs_in_view (nodes_of tree) (view_of tree screen d) n) owner

pub none_is : (found : Option Inputs) → is_some found ≡ false → found ≡ None
none_is None none = refl
none_is (Some inputs) none = cc

-- what is held for a node is as it is now where its slot and its parent's are the same
same_fresh : (at : ℕ → Node) (before after : ℕ → Slot) (n : ℕ) (own : Inputs) → after n ≡ before n → ((p : ℕ) → (at n).parent ≡ Some p → after p ≡ before p)
    → IsFreshAt at before n own → IsFreshAt at after n own
same_fresh at before after n own same around was = record {
  unmarked = ap (λ (slot : Slot). slot.marked) same ∙ was.unmarked;
  box = ap (λ (slot : Slot). option_map (λ found. found.own) slot.found) same ∙ was.box;
  from = ap (λ (slot : Slot). option_map (λ found. seen_inputs found.inputs) slot.found) same ∙ was.from;
  above = λ p outer up held.
      ap (λ (slot : Slot). slot.above) same
      ∙ was.above p outer up (sym (ap (λ (slot : Slot). option_map (λ found. seen_inputs found.inputs) slot.found) (around p up)) ∙ held);
}

module _ (tree : Tree) (screen : Screen) where
  -- without inputs no element is due
  not_due : (kept : List Slot) (n : ℕ) → inputs_of tree screen n ≡ None → is_due tree screen kept n ≡ false
  not_due kept n none = ap (λ found. is_due_at found (slot_in kept n)) none

  -- a document whose view has no root element
  module _ (document : ℕ) (none : (view_of tree screen document).root ≡ None) where
    rootless_fresh : (kept : List Slot) → IsFreshIn tree screen kept document
    rootless_fresh kept = record {
      boxes = λ n inputs is. let nothing : None ≡ Some inputs = sym (rootless (nodes_of tree) (view_of tree screen document) none n) ∙ is in cc;
    }

    rootless_due : (kept : List Slot) (n : ℕ) → (element_at tree n).document ≡ document → is_due tree screen kept n ≡ false
    rootless_due kept n owner = not_due kept n (inputs_found tree screen n document owner ∙ rootless (nodes_of tree) (view_of tree screen document) none n)

    pub rootless_laid_out : (kept : List Slot) → IsLaidOut tree screen kept document
    rootless_laid_out kept = record { fresh = rootless_fresh kept; done = rootless_due kept }

  -- a document that isn't Active has no box
  pub idle_rootless : (document : ℕ) → is_active tree document ≡ false → (view_of tree screen document).root ≡ None
  idle_rootless document none = ap (λ (view : View). view.root) (sym (view_whole tree screen document) ∙ view_idle tree screen 65536 document none)

  pub idle_fresh : (kept : List Slot) (document : ℕ) → is_active tree document ≡ false → IsFreshIn tree screen kept document
  idle_fresh kept document none = rootless_fresh document (idle_rootless document none) kept

  pub idle_due : (kept : List Slot) (n : ℕ) → is_active tree (element_at tree n).document ≡ false → is_due tree screen kept n ≡ false
  idle_due kept n none = rootless_due (element_at tree n).document (idle_rootless (element_at tree n).document none) kept n refl

-- an Active document whose viewport has this size, where it shows something
module _ (tree : Tree) (framed : AreFramed tree) (screen : Screen) (document : ℕ) (active : is_active tree document ≡ true)
    (found : Option (ℕ × ℕ)) (shown : found ≡ framed_size tree screen (view_of tree screen) (document_at tree document).frame) where
  view_here : view_of tree screen document ≡ view_with (document_at tree document).root found
  view_here = view_is tree framed screen document active ∙ ap (view_with (document_at tree document).root) (sym shown)

  pub rootless_here : (view_with (document_at tree document).root found).root ≡ None → (view_of tree screen document).root ≡ None
  rootless_here none = ap (λ (view : View). view.root) view_here ∙ none

-- a document without a root element shows none
pub no_root : (root : Option ℕ) (found : Option (ℕ × ℕ)) → root ≡ None → (view_with root found).root ≡ None
no_root root None none = refl
no_root root (Some pair) none = none

-- an Active document that shows its root element
module _ (tree : Tree) (framed : AreFramed tree) (screen : Screen) (document : ℕ) (active : is_active tree document ≡ true)
    (pair : ℕ × ℕ) (shown : Some pair ≡ framed_size tree screen (view_of tree screen) (document_at tree document).frame)
    (at : ℕ → Node) (nodes : nodes_of tree ≡ at) (root : ℕ) (rooted : (document_at tree document).root ≡ Some root) where
  abbrev shown_view : View
  shown_view = view_with (Some root) (Some pair)

  pub view_shown : view_of tree screen document ≡ shown_view
  view_shown = view_here tree framed screen document active (Some pair) shown ∙ ap (λ found. view_with found (Some pair)) rooted

  module _ (inputs : Inputs) (from : inputs ≡ record { width = pair.0; height = Some (pair.1); flow = true }) where
    inputs_shown : (n : ℕ) → inputs_in at root inputs n ≡ inputs_in_view (nodes_of tree) (view_of tree screen document) n
    inputs_shown n =
        ap (λ given. inputs_in at root given n) from
        ∙ sym (inputs_from at root shown_view refl n)
        ∙ ap (λ view. inputs_in_view at view n) (sym view_shown)
        ∙ ap (λ at. inputs_in_view at (view_of tree screen document) n) (sym nodes)

    -- the document itself
    pub laid_out_here : (kept : List Slot)
        → ((n : ℕ) (own : Inputs) → inputs_in at root inputs n ≡ Some own → IsFreshAt at (slot_in kept) n own)
        → ((n : ℕ) → is_due_with (inputs_in at root inputs) (slot_in kept) n ≡ false)
        → IsLaidOut tree screen kept document
    laid_out_here kept fresh done = record {
      fresh = record { boxes = λ n own is. subst (λ at. IsFreshAt at (slot_in kept) n own) (sym nodes) (fresh n own (inputs_shown n ∙ is)) };
      done = λ n owner.
          ap (λ found. is_due_at found (slot_in kept n)) (inputs_found tree screen n document owner ∙ sym (inputs_shown n)) ∙ done n;
    }

    -- what other documents show stands in other trees
    apart : (other r n : ℕ) → other ≢ document → (document_at tree other).root ≡ Some r → is_in_path (nodes_of tree) r n ≡ true
        → is_in_path (nodes_of tree) root n ≡ true → ⊥
    apart other r n differs is there here =
        let own = framed.owners.roots document root rooted in
        let its = framed.owners.roots other r is in
        let same : r ≡ root = top_only (nodes_of tree) r root n its.top own.top there here in
        differs (sym its.owner ∙ ap (λ m. (element_at tree m).document) same ∙ own.owner)

    elsewhere : (other n : ℕ) (own : Inputs) → other ≢ document → inputs_in_view (nodes_of tree) (view_of tree screen other) n ≡ Some own → inputs_in at root inputs n ≡ None
    elsewhere other n own differs is = by_inputs (inputs_in at root inputs n) refl
      where
        by_inputs : (found : Option Inputs) → inputs_in at root inputs n ≡ found → inputs_in at root inputs n ≡ None
        by_inputs None e = e
        by_inputs (Some more) e =
            let there = rooted_in (nodes_of tree) (view_of tree screen other) n own is in
            let here = boxed_inside at root inputs n (ap is_some e) in
            absurd (apart other there.0 n differs (view_root tree screen other there.0 there.1.0) there.1.1 (ap (λ at. is_in_path at root n) nodes ∙ here))

    module _ (before after : List Slot) (same : (n : ℕ) → inputs_in at root inputs n ≡ None → slot_in after n ≡ slot_in before n) where
      -- the other documents
      pub others_here : (other : ℕ) → other ≢ document → IsLaidOut tree screen before other → IsLaidOut tree screen after other
      others_here other differs was = record {
        fresh = record {
          boxes = λ n own is.
              same_fresh (nodes_of tree) (slot_in before) (slot_in after) n own (same n (elsewhere other n own differs is))
              (λ p up. let outer = over n p own up is in same p (elsewhere other p outer.0 differs outer.1)) (was.fresh.boxes n own is);
        };
        done = λ n owner. by_inputs n owner (inputs_of tree screen n) refl;
      }
        where
          over : (n p : ℕ) (own : Inputs) → (nodes_of tree n).parent ≡ Some p → inputs_in_view (nodes_of tree) (view_of tree screen other) n ≡ Some own
              → (outer : Inputs) × (inputs_in_view (nodes_of tree) (view_of tree screen other) p ≡ Some outer)
          over n p own up is =
              some_found (inputs_in_view (nodes_of tree) (view_of tree screen other) p)
              (child_boxed (nodes_of tree) (view_of tree screen other) n p up (framed.trees.shallow p) (ap is_some is)).2

          by_inputs : (n : ℕ) → (element_at tree n).document ≡ other → (found : Option Inputs) → inputs_of tree screen n ≡ found → is_due tree screen after n ≡ false
          by_inputs n owner None none = not_due tree screen after n none
          by_inputs n owner (Some own) is =
              ap (is_due_at (inputs_of tree screen n)) (same n (elsewhere other n own differs (sym (inputs_found tree screen n other owner) ∙ is)))
              ∙ was.done n owner

      -- elements of other documents
      pub left_here : ChangesOnlyIn tree (document ∷ []) before after
      left_here n apart = same n (by_inputs (inputs_in at root inputs n) refl)
        where
          by_inputs : (found : Option Inputs) → inputs_in at root inputs n ≡ found → inputs_in at root inputs n ≡ None
          by_inputs None e = e
          by_inputs (Some own) e =
              let inside = ap (λ at. is_in_path at root n) nodes ∙ boxed_inside at root inputs n (ap is_some e) in
              let owner = owner_inside tree framed root n inside ∙ (framed.owners.roots document root rooted).owner in
              let here : (document == document || false) ≡ true = grind (arith, nat_tests) in
              let both : true ≡ false = sym here ∙ ap (λ d. is_listed d (document ∷ [])) (sym owner) ∙ apart in
              cc

      -- what is kept
      unmade : (n : ℕ) → length tree.elements ≤ n → inputs_in at root inputs n ≡ None
      unmade n past =
          let beyond : nat_lt n (length tree.elements) ≡ false = grind (arith, nat_tests) in
          none_is (inputs_in at root inputs n) (ap is_some (inputs_shown n) ∙ absent_unboxed tree (view_of tree screen document) n beyond)

      pub kept_here : AreKept tree before → length after ≡ length before → IsReady at root after → AreKept tree after
      kept_here kept slots ready = record {
        slots = let room = kept.slots in omega arith;
        sound = subst (λ at. IsSound at (slot_in after)) (sym nodes) ready.sound;
        unmade = λ n past. ap (λ (slot : Slot). slot.found) (same n (unmade n past)) ∙ kept.unmade n past;
      }

    -- in the tree of the root element each has the inputs of that
    pub inputs_inside : (n : ℕ) → is_in_path at root n ≡ true → inputs_of tree screen n ≡ inputs_in at root inputs n
    inputs_inside n inside =
        let own = framed.owners.roots document root rooted in
        inputs_found tree screen n document (owner_inside tree framed root n (ap (λ at. is_in_path at root n) nodes ∙ inside) ∙ own.owner) ∙ sym (inputs_shown n)

    -- elements without a box
    pub unboxed_here : (before after : List Slot) → ((n : ℕ) → inputs_in at root inputs n ≡ None → slot_in after n ≡ slot_in before n) → LeavesUnboxed tree screen before after
    unboxed_here before after same n none = same n (by_inputs (inputs_in at root inputs n) refl)
      where
        by_inputs : (found : Option Inputs) → inputs_in at root inputs n ≡ found → inputs_in at root inputs n ≡ None
        by_inputs None e = e
        by_inputs (Some own) e =
            let both : None ≡ Some own = sym none ∙ inputs_inside n (boxed_inside at root inputs n (ap is_some e)) ∙ e in
            cc

  -- each node in the tree of the root element is an element
  alone : (n : ℕ) → (nodes_of tree n).parent ≡ None → is_in_path (nodes_of tree) root n ≡ true → n ≡ root
  unfolding is_in_path is_among
  alone n none inside = by_test (nat_eq root n) refl (sym (ap (is_among root) (path_top (nodes_of tree) n none)) ∙ inside)
    where
      by_test : (same : Bool) → nat_eq root n ≡ same → (same || false) ≡ true → n ≡ root
      by_test true is e = sym (eqb-true root n is)
      by_test false is e = cc

  made : (n : ℕ) → is_in_path (nodes_of tree) root n ≡ true → n < length tree.elements
  made n inside = by_test (nat_lt n (length tree.elements)) refl
    where
      by_test : (b : Bool) → nat_lt n (length tree.elements) ≡ b → n < length tree.elements
      by_test true e = grind (arith, nat_tests)
      by_test false e =
          let same : n ≡ root = alone n (ap (λ (it : Element). it.parent) (missing_element tree n e)) inside in
          let known = (framed.owners.roots document root rooted).known in
          omega arith

  pub ready_before : (kept : List Slot) → AreKept tree kept → IsReady at root kept
  ready_before kept fits = record {
    slots = λ n inside. let known = made n (ap (λ at. is_in_path at root n) nodes ∙ inside) in let room = fits.slots in omega arith;
    sound = subst (λ at. IsSound at (slot_in kept)) nodes fits.sound;
  }
