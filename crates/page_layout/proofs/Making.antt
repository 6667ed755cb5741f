-- An element that is made, with its slot.
use Rattle.std.proofs.Common.{◌≡◌, ◌+◌, ◌-◌, ◌<◌, ◌≤◌, ℕ, suc, Bool, true, false, not, ◌&&◌, ◌||◌, nat_eq, nat_lt, List, [], length, replicate, Option, OnOk, OnErr, Result, Ok, Err, IfErr, refl, ap, sym, subst, ◌∙◌, arith}
use Rattle.std.proofs.lemmas.Bool.{and_parts}
use Rattle.std.proofs.lemmas.Bool.Decides.{nat_tests}
use Rattle.std.proofs.lemmas.List.{length-append, length-replicate}
use mathlib.Core.Path.{fun_ext}
use Rattle.layout_model.specs.Items.{Kind}
use Rattle.text_io.specs.declared.kinds.LimitKind.TheVariants as limits
use Rattle.page_model.specs.World.{Element, Tree}
use Rattle.page_model.specs.Lookups.{no_element}
use Rattle.page_model.specs.Documents.{nodes_of}
use Rattle.page_model.specs.Edits.{with_element, with_frame}
use Rattle.page_model.specs.Steps.{Did, ◌>>◌, room, met_unless}
use Rattle.page_documents.proofs.Entries.{append_new}
use Rattle.kept_layout.specs.declared.slots.Slot.{Slot}
use Rattle.kept_layout.specs.Slots.{no_slot, slot_in, with_slot}
use Rattle.kept_layout.specs.Sound.{IsSound}
use Rattle.kept_layout.proofs.Steady.{changed_elsewhere, more_fits, new_node}
use Rattle.page_tree.specs.Views.{PageElements}
use Rattle.page_tree.specs.Changes.{ChangesAtNext}
use Rattle.page_tree.specs.Faults.{has_document_room, IsMakeFault, IsFrameFault}
use Rattle.page_tree.specs.declared.faults.MakeFault.{MakeFault}
use Rattle.page_tree.specs.declared.faults.MakeFault.TheVariants.{Limit, Memory}
use Rattle.page_boxes.specs.Kept.{AreKept}

or_none : (b : Bool) → (b || false) ≡ false → b ≡ false
or_none false none = refl
or_none true none = none

pub roomier : (n : ℕ) (slots later : List Slot) → later ≡ with_slot n slots → (length slots ≤ length later) × (n < length later)
roomier n slots later is =
    let count : length later ≡ length slots + (suc n - length slots) =
    ap length is ∙ length-append slots (replicate (suc n - length slots) no_slot) ∙ ap (λ k. length slots + k) (length-replicate (suc n - length slots) no_slot) in
    (omega arith, omega arith)

-- more slots hold what is kept as well
pub kept_roomier : (tree : Tree) (kept later : List Slot) → ((n : ℕ) → slot_in later n ≡ slot_in kept n) → length kept ≤ length later → AreKept tree kept → AreKept tree later
kept_roomier tree kept later same more was = record {
  slots = omega (arith, was.slots);
  sound = subst (IsSound (nodes_of tree)) (sym (fun_ext same)) was.sound;
  unmade = λ n far. ap (λ (slot : Slot). slot.found) (same n) ∙ was.unmade n far;
}

-- an element made last has no children
pub alone_with : (kind : Kind) (document : ℕ) (framed : Option ℕ) (tree : Tree) → (nodes_of (with_element kind document framed tree) (length tree.elements)).children ≡ []
alone_with kind document framed tree = ap (λ (it : Element). it.children) (append_new no_element _ (tree.elements))

pub alone_frame : (document : ℕ) (tree : Tree) → (nodes_of (with_frame document tree) (length tree.elements)).children ≡ []
alone_frame document tree = ap (λ (it : Element). it.children) (append_new no_element _ (tree.elements))

module _ (old new : PageElements) (kept : List Slot) (was : AreKept old.tree kept) where
  kept_next : length old.tree.elements < length kept → (nodes_of new.tree (length old.tree.elements)).children ≡ [] → length new.tree.elements ≡ length old.tree.elements + 1
      → ChangesAtNext old.tree new.tree → AreKept new.tree kept
  kept_next room alone longer changes = record {
    slots = omega arith;
    sound =
        new_node (nodes_of new.tree) (slot_in kept) (length old.tree.elements) (λ m. false) alone (was.unmade (length old.tree.elements) (omega arith))
        (more_fits (nodes_of new.tree) (slot_in kept) (λ m. nat_eq m (length old.tree.elements)) (λ m. nat_eq m (length old.tree.elements) || false)
        (λ m none. or_none (nat_eq m (length old.tree.elements)) none)
        (changed_elsewhere (nodes_of old.tree) (nodes_of new.tree) (slot_in kept) (λ m. nat_eq m (length old.tree.elements)) changes was.sound));
    unmade = λ n far. was.unmade n (omega arith);
  }

  pub kept_made : {A E : Type 0} (made : Tree) (names : List (List ℕ)) → length old.tree.elements < length kept → (nodes_of made (length old.tree.elements)).children ≡ []
      → (result : Result A E) → OnOk result (new ≡ record old { tree = made; names = names; ready = new.ready })
      → OnOk result (length new.tree.elements ≡ length old.tree.elements + 1) → OnOk result (ChangesAtNext old.tree new.tree)
      → OnErr result (new ≡ record old { ready = new.ready }) → AreKept new.tree kept
  kept_made made names room alone (Ok a) is longer changes same =
      kept_next room (ap (λ (page : PageElements). (nodes_of page.tree (length old.tree.elements)).children) is ∙ alone) longer changes
  kept_made made names room alone (Err e) is longer changes same = subst (λ (page : PageElements). AreKept page.tree kept) (sym same) was

pub room_is : (page : PageElements) (kept : List Slot) → (page.ready && nat_lt (length page.tree.elements) (length kept)) ≡ true → length page.tree.elements < length kept
room_is page kept ready = let low = (and_parts (page.ready) (nat_lt (length page.tree.elements) (length kept)) ready).1 in grind (arith, nat_tests)

-- an element that isn't made, as a frame, where there is room for its document
module _ (page : PageElements) (other : Bool) (tells : other ≡ not (has_document_room page)) (is : other ≡ false) where
  frame_fault : (fault : MakeFault) → IsMakeFault page fault → IsFrameFault page fault
  unfolding ◌>>◌
  frame_fault (Limit kind) met = ap (λ step. step >> room (page.version) limits.Documents (length page.tree.documents)) met
  frame_fault Memory unready =
      (ap (λ step. step >> room (page.version) limits.Documents (length page.tree.documents)) (unready.0) ∙ roomy (has_document_room page) (sym tells ∙ is), unready.1)
    where
      roomy : (room : Bool) → not room ≡ false → met_unless room limits.Documents ≡ Did tt
      roomy true e = refl
      roomy false e = cc

  pub frame_faults : {A : Type 0} (result : Result A MakeFault) → IfErr result (IsMakeFault page) → IfErr result (IsFrameFault page)
  frame_faults (Ok a) why = tt
  frame_faults (Err fault) why = frame_fault fault why
