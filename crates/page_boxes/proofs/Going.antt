-- How far the documents of a page are laid out.
use Rattle.std.proofs.Common.{◌≡◌, ◌≢◌, ◌<◌, ℕ, zero, suc, Bool, true, false, List, [], ◌∷◌, Option, None, option_map, length, replicate, slice_set, slice_get, length-set, unwrap_or, nat_eq, eqb-true, refl, ap, sym, subst, ◌∙◌, arith}
use Rattle.std.proofs.lemmas.Bool.Decides.{nat_tests}
use Rattle.element_tree.specs.declared.node.NodeId.{NodeId}
use Rattle.element_tree.specs.Links.{number}
use Rattle.page_model.specs.World.{Document, Screen, Tree}
use Rattle.page_model.specs.Lookups.{element_at, no_document}
use Rattle.page_model.specs.Documents.{is_active, is_active_state}
use Rattle.page_model.specs.PageBoxes.{view_of}
use Rattle.kept_layout.specs.declared.slots.Slot.{Slot}
use Rattle.page_boxes.specs.Fresh.{IsFreshIn, IsFreshAbove}
use Rattle.page_boxes.specs.Kept.{is_due}
use Rattle.page_boxes.specs.LaidOut.{Laid, IsLaidOut, IsMarkedAbove, IsSoFar, MarksMore, is_marked, noted_root, AreLaidOut}
use Rattle.page_boxes.proofs.Marks.{none_marked, marked_else, still_marked, noted_here, noted_else}
use Rattle.page_boxes.proofs.Renewed.{idle_fresh, idle_due}

module _ (tree : Tree) (screen : Screen) where
  none : (A : Type 0) (document : ℕ) → is_marked (replicate 64 false) document ≡ true → A
  none A document is = let clash : false ≡ true = sym (none_marked 64 document) ∙ is in cc

  pub none_so_far : (kept : List Slot) → IsSoFar tree screen (record { marks = replicate 64 false; roots = replicate 64 None }) kept
  none_so_far kept = record {
    marks = refl;
    roots = refl;
    laid_out = λ document is. none (IsLaidOut tree screen kept document) document is;
    shown = λ document is. none (noted_root (replicate 64 None) document ≡ (view_of tree screen document).root) document is;
    above = λ document is. none (IsMarkedAbove tree (replicate 64 false) document) document is;
  }

  -- one document more
  module _ (laid : Laid) (before after : List Slot) (so_far : IsSoFar tree screen laid before) (document : ℕ) (known : document < 64) (root : Option NodeId)
      (here : IsLaidOut tree screen after document) (others : (other : ℕ) → other ≢ document → IsLaidOut tree screen before other → IsLaidOut tree screen after other)
      (shows : option_map number root ≡ (view_of tree screen document).root) (around : IsMarkedAbove tree laid.marks document) where
    abbrev next : Laid
    next = record { marks = slice_set laid.marks document true; roots = slice_set laid.roots document root }

    differs : (other : ℕ) → nat_eq other document ≡ false → other ≢ document
    differs other e same = let clash : nat_eq other document ≡ true = grind (arith, nat_tests) in let both : true ≡ false = sym clash ∙ e in cc

    was : (other : ℕ) → is_marked next.marks other ≡ true → nat_eq other document ≡ false → is_marked laid.marks other ≡ true
    was other is e = sym (marked_else laid.marks document other (differs other e)) ∙ is

    either : (other : ℕ) → is_marked next.marks other ≡ true → (same : Bool) → nat_eq other document ≡ same → IsLaidOut tree screen after other
    either other is true e = subst (IsLaidOut tree screen after) (sym (eqb-true other document e)) here
    either other is false e = others other (differs other e) (so_far.laid_out other (was other is e))

    shows_own : noted_root next.roots document ≡ (view_of tree screen document).root
    shows_own = let room = so_far.roots in ap (option_map number) (noted_here laid.roots document root (omega arith)) ∙ shows

    shown_either : (other : ℕ) → is_marked next.marks other ≡ true → (same : Bool) → nat_eq other document ≡ same
        → noted_root next.roots other ≡ (view_of tree screen other).root
    shown_either other is true e = subst (λ d. noted_root next.roots d ≡ (view_of tree screen d).root) (sym (eqb-true other document e)) shows_own
    shown_either other is false e =
        ap (option_map number) (noted_else laid.roots document other root (differs other e)) ∙ so_far.shown other (was other is e)

    above_either : (other : ℕ) → is_marked next.marks other ≡ true → (same : Bool) → nat_eq other document ≡ same → IsMarkedAbove tree laid.marks other
    above_either other is true e = subst (IsMarkedAbove tree laid.marks) (sym (eqb-true other document e)) around
    above_either other is false e = so_far.above other (was other is e)

    pub one_more : IsSoFar tree screen next after
    one_more = record {
      marks = length-set laid.marks document true ∙ so_far.marks;
      roots = length-set laid.roots document root ∙ so_far.roots;
      laid_out = λ other is. either other is (nat_eq other document) refl;
      shown = λ other is. shown_either other is (nat_eq other document) refl;
      above = λ other is frame at active.
          still_marked laid.marks document (element_at tree frame).document (above_either other is (nat_eq other document) refl frame at active);
    }

    pub marks_more : MarksMore laid next
    marks_more other is = still_marked laid.marks document other is

  -- where each Active document is laid out
  module _ (marks : List Bool) (kept : List Slot) (laid_out : AreLaidOut tree screen marks kept) where
    pub fresh_in : (document : ℕ) → (is_active tree document ≡ true → is_marked marks document ≡ true) → IsFreshIn tree screen kept document
    fresh_in document marked = by_state (is_active tree document) refl
      where
        by_state : (active : Bool) → is_active tree document ≡ active → IsFreshIn tree screen kept document
        by_state true active = (laid_out document (marked active)).fresh
        by_state false none = idle_fresh tree screen kept document none

    pub none_due : ((document : ℕ) → is_active tree document ≡ true → is_marked marks document ≡ true) → (n : ℕ) → is_due tree screen kept n ≡ false
    none_due marked n = by_state (is_active tree (element_at tree n).document) refl
      where
        by_state : (active : Bool) → is_active tree (element_at tree n).document ≡ active → is_due tree screen kept n ≡ false
        by_state true active = (laid_out (element_at tree n).document (marked (element_at tree n).document active)).done n refl
        by_state false none = idle_due tree screen kept n none

-- a document is up to date around where the one that its frame is in is marked
pub fresh_above : (tree : Tree) (screen : Screen) (laid : Laid) (kept : List Slot) → IsSoFar tree screen laid kept → (document : ℕ) → IsMarkedAbove tree laid.marks document
    → IsFreshAbove tree screen kept document
fresh_above tree screen laid kept so_far document above frame is =
    fresh_in tree screen laid.marks kept so_far.laid_out (element_at tree frame).document (above frame is)

there : (documents : List Document) (document : ℕ) → is_active_state (unwrap_or (slice_get documents document) no_document).state ≡ true → document < length documents
there [] document active = cc
there (x ∷ documents) zero active = omega arith
there (x ∷ documents) (suc document) active = let below : document < length documents = there documents document active in omega arith

pub active_known : (tree : Tree) (document : ℕ) → is_active tree document ≡ true → document < length tree.documents
active_known tree document active = there tree.documents document active
