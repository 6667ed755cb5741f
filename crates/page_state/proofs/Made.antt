-- What is made has no box, so that the same boxes are due as before.
use Rattle.std.proofs.Common.{◌≡◌, refl, sym, ap, subst, ◌∙◌, arith, tests, ◌≤◌, true≢false}
use Rattle.std.specs.Prelude.{ℕ, zero, suc, ◌+◌, ◌<◌, ◌==◌, ◌||◌, nat_lt, Bool, true, false, not, List, [], ◌∷◌, length, Option, Some, None, IfSome}
use Rattle.std.specs.List.{AllByRecursion}
use Rattle.layout_model.specs.Boxes.{Inputs}
use Rattle.page_model.specs.World.{Screen, Element, Tree, World}
use Rattle.page_model.specs.Lookups.{entry_or, element_at, document_at, no_element, is_listed}
use Rattle.page_model.specs.Documents.{is_number}
use Rattle.page_documents.specs.Frames.{AreFramed}
use Rattle.kept_layout.specs.declared.slots.Slot.{Slot}
use Rattle.kept_layout.specs.Slots.{slot_in}
use Rattle.kept_layout.specs.Due.{is_due_at, is_due, one_if, due_count}
use Rattle.page_model.specs.PageBoxes.{inputs_of}
use Rattle.page_model.specs.Steps.{Did}
use Rattle.page_laws.specs.Making.{NamesMade, KeepsBoxes}
use Rattle.page_tree.specs.Faults.{has_element_room, has_document_room, frame_room, IsFrameFault}
use Rattle.page_tree.specs.Views.{PageElements}
use Rattle.page_tree.specs.declared.faults.MakeFault.{MakeFault}
use Rattle.page_tree.specs.declared.faults.MakeFault.TheVariants.{Limit, Memory}
use Rattle.page_tree.proofs.Making.{frame_roomy}
use Rattle.page_boxes.specs.Kept.{AreKept}
use Rattle.page_layout.specs.Marks.{MarksNone}
use Rattle.page_layout.specs.Views.{LaidElements}
use Rattle.page_state.specs.Boxes.{LeavesDue}
use Rattle.page_state.specs.Views.{PageView}
use Rattle.page_state.specs.Worlds.{view_of}
use Rattle.page_state.specs.declared.page.Page.TheInside.{Inside}
use Rattle.page_boxes.proofs.Rooted.{or_true}

-- a frame for which there is room, and for which it was made, is never refused
pub frame_there : (was now : PageElements) (full : Bool) → full ≡ not (has_element_room was) → full ≡ false
    → (other : Bool) → other ≡ not (has_document_room was) → other ≡ false → now ≡ record was { ready = now.ready } → now.ready ≡ true
    → (fault : MakeFault) → IsFrameFault now fault → ⊥
frame_there was now full says is other tells so same ready (Limit kind) refused =
    let roomy : frame_room now ≡ Did tt = ap frame_room same ∙ frame_roomy was full says is other tells so in cc (roomy, refused)
frame_there was now full says is other tells so same ready Memory refused = true≢false (sym ready ∙ refused.1)

-- what is named in a page was made ------------------------------------------------------------------------------------------------------

there : (test : Element → Bool) → test no_element ≡ false → (xs : List Element) (n : ℕ) → test (entry_or no_element xs n) ≡ true → n < length xs
there test none [] n is = absurd (true≢false (sym is ∙ none))
there test none (x ∷ xs) zero is = omega arith
there test none (x ∷ xs) (suc n) is = let less : n < length xs = there test none xs n is in omega (arith, less)

some_if : {A : Type 0} (P : A → Type 0) (found : Option A) → ((x : A) → found ≡ Some x → P x) → IfSome found P
some_if P None each = tt
some_if P (Some x) each = each x refl

same_number : (n : ℕ) → (n == n) ≡ true
same_number n = grind (arith, tests)

all_listed : (P : ℕ → Type 0) (xs : List ℕ) → ((c : ℕ) → is_listed c xs ≡ true → P c) → AllByRecursion P xs
all_listed P [] each = tt
all_listed P (x ∷ xs) each =
    (each x (ap (λ (it : Bool). it || is_listed x xs) (same_number x)), all_listed P xs (λ c is. each c (or_true (x == c) (is_listed c xs) is)))

pub framed_made : (tree : Tree) → AreFramed tree → NamesMade tree
framed_made tree framed = record {
  parents = λ n. some_if _ (element_at tree n).parent (λ parent is.
      there (λ it. is_listed n (it.children)) refl (tree.elements) parent
      (framed.trees.children parent n ∙ ap (λ (found : Option ℕ). is_number found parent) is ∙ same_number parent));
  children = λ n. all_listed _ (element_at tree n).children (λ child is.
      there (λ it. is_number (it.parent) n) refl (tree.elements) child (sym (framed.trees.children n child) ∙ is));
  frames = λ document. some_if _ (document_at tree document).frame (λ frame is.
      there (λ it. is_number (it.framed) document) refl (tree.elements) frame
      (ap (λ (found : Option ℕ). is_number found document) (framed.owners.frames document frame is) ∙ same_number document));
  roots = λ document. some_if _ (document_at tree document).root (λ root is. (framed.owners.roots document root is).known);
}

-- what is due -----------------------------------------------------------------------------------------------------------------------------

module _ (inputs : ℕ → Option Inputs) (slot : ℕ → Slot) where
  one_more : (m k : ℕ) → m ≤ suc k → (past : Bool) → nat_lt k m ≡ past → (m ≤ k → due_count inputs slot m ≤ due_count inputs slot k)
      → due_count inputs slot m ≤ due_count inputs slot (suc k)
  unfolding due_count
  one_more m k less true is so_far =
      let beyond : k < m = grind (arith, tests, is) in
      let same : m ≡ suc k = omega (arith, less, beyond) in
      let here : due_count inputs slot m ≤ due_count inputs slot m = omega arith in
      subst (λ (n : ℕ). due_count inputs slot m ≤ due_count inputs slot n) same here
  one_more m k less false is so_far =
      let below : m ≤ k = grind (arith, tests, is) in
      let most : due_count inputs slot m ≤ due_count inputs slot k = so_far below in
      omega (arith, most)

  fewer : (m k : ℕ) → m ≤ k → due_count inputs slot m ≤ due_count inputs slot k
  fewer m zero less =
      let none : m ≡ 0 = omega (arith, less) in
      let here : due_count inputs slot m ≤ due_count inputs slot m = omega arith in
      subst (λ (n : ℕ). due_count inputs slot m ≤ due_count inputs slot n) none here
  fewer m (suc k) less = one_more m k less (nat_lt k m) refl (fewer m k)

  by_past : (k m : ℕ) (past : (n : ℕ) → k ≤ n → is_due inputs slot n ≡ false) (below : Bool) → nat_lt m k ≡ below →
      due_count inputs slot m ≤ due_count inputs slot k → due_count inputs slot (suc m) ≤ due_count inputs slot k
  unfolding due_count
  by_past k m past true less so_far =
      let below : m < k = grind (arith, tests, less) in
      fewer (suc m) k (omega (arith, below))
  by_past k m past false less so_far =
      let beyond : k ≤ m = grind (arith, tests, less) in
      let none : one_if (is_due inputs slot m) ≡ 0 = ap one_if (past m beyond) in
      omega (arith, none, so_far)

  -- where none is due from a number on
  at_most : (k m : ℕ) → ((n : ℕ) → k ≤ n → is_due inputs slot n ≡ false) → due_count inputs slot m ≤ due_count inputs slot k
  unfolding due_count
  at_most k zero past = omega arith
  at_most k (suc m) past = by_past k m past (nat_lt m k) refl (at_most k m past)

module _ (inputs inputs' : ℕ → Option Inputs) (slot slot' : ℕ → Slot) (same : (n : ℕ) → is_due inputs' slot' n ≡ is_due inputs slot n) where
  as_many : (m : ℕ) → due_count inputs' slot' m ≡ due_count inputs slot m
  unfolding due_count
  as_many zero = refl
  as_many (suc m) = λ i. as_many m i + one_if (same m i)

no_box : (inputs : Option Inputs) (slot : Slot) → inputs ≡ None → is_due_at inputs slot ≡ false
no_box inputs slot none = ap (λ (it : Option Inputs). is_due_at it slot) none

-- nothing else changes than that something was made, in a page that has a slot for each element
module _ (world : World) (after : Tree) (old new : List Slot) (keeps : KeepsBoxes (world.tree) after) (slots : length world.tree.elements ≤ length old)
    (unmade : (screen : Screen) (n : ℕ) → length world.tree.elements ≤ n → inputs_of world.tree screen n ≡ None) (marks : MarksNone old new) where
  abbrev screen : Screen
  screen = world.viewports.screen

  same_due : (n : ℕ) → is_due (inputs_of after screen) (slot_in new) n ≡ is_due (inputs_of (world.tree) screen) (slot_in old) n
  same_due n = λ i. is_due_at (keeps.inputs screen n i) (marks n i)

  pub leaves_due : LeavesDue world after old new
  leaves_due =
      let given = inputs_of (world.tree) screen in
      let past : due_count given (slot_in old) (length new) ≤ due_count given (slot_in old) (length world.tree.elements) =
      at_most given (slot_in old) (length world.tree.elements) (length new) (λ n is. no_box (given n) (slot_in old n) (unmade screen n is)) in
      let within : due_count given (slot_in old) (length world.tree.elements) ≤ due_count given (slot_in old) (length old) =
      fewer given (slot_in old) (length world.tree.elements) (length old) slots in
      let many : due_count (inputs_of after screen) (slot_in new) (length new) ≡ due_count given (slot_in old) (length new) =
      as_many given (inputs_of after screen) (slot_in old) (slot_in new) same_due (length new) in
      record { marks = marks; due = same_due; count = omega (arith, past, within, many) }

-- what is so of a page, seen from outside
module _ (page : Inside) (now : PageView) (view_is : view_of page ≡ now) where
  pub made_in : (handed : Tree) → handed ≡ page.laid.elements.tree → AreFramed handed → NamesMade (now.world.tree)
  made_in handed same framed = framed_made (now.world.tree) (subst AreFramed (same ∙ ap (λ (v : PageView). v.world.tree) view_is) framed)

  pub slots_in : AreKept page.laid.elements.tree page.laid.kept → length now.world.tree.elements ≤ length now.kept
  slots_in kept = subst (λ (v : PageView). length v.world.tree.elements ≤ length v.kept) view_is kept.slots

pub same_boxes : (tree : Tree) → KeepsBoxes tree tree
same_boxes tree = record { inputs = λ screen n. refl; boxes = λ screen n. refl }

-- seen from outside, where nothing was made or something was
module _ (page : Inside) (now : PageView) (view_is : view_of page ≡ now)
    (leaves : (after : Tree) (kept : List Slot) → KeepsBoxes (now.world.tree) after → MarksNone now.kept kept → LeavesDue now.world after now.kept kept)
    (after : LaidElements) (marks : MarksNone page.laid.kept after.kept) where
  pub due_made : (making : Tree → Tree) → KeepsBoxes (now.world.tree) (making (now.world.tree)) → after.elements.tree ≡ making (page.laid.elements.tree)
      → LeavesDue now.world after.elements.tree now.kept after.kept
  due_made making keeps is =
      leaves (after.elements.tree) after.kept
      (subst (KeepsBoxes (now.world.tree)) (sym (is ∙ ap (λ (v : PageView). making (v.world.tree)) view_is)) keeps)
      (subst (λ (v : PageView). MarksNone v.kept after.kept) view_is marks)

  pub due_still : after.elements.tree ≡ page.laid.elements.tree → LeavesDue now.world after.elements.tree now.kept after.kept
  due_still is = due_made (λ tree. tree) (same_boxes (now.world.tree)) is
