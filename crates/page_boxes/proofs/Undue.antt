-- That a computation only fills what is kept, and that what is held and isn't due is as it is now.
use Rattle.std.proofs.Common.{◌≡◌, ℕ, true, false, List, Option, Some, None, option_map, refl, ap, sym, subst, ◌∙◌}
use Rattle.std.proofs.lemmas.Bool.{false≢true}
use Rattle.std.specs.Prelude.{is_some}
use Rattle.layout_model.specs.Styles.{Style}
use Rattle.layout_model.specs.Items.{Kind}
use Rattle.layout_model.specs.Nodes.{Node, IsLinked, IsShallow}
use Rattle.layout_model.specs.Boxes.{Inputs, Box, box_in}
use Rattle.layout_model.specs.Views.{inputs_in_view}
use Rattle.page_model.specs.World.{Screen, Tree}
use Rattle.page_model.specs.Documents.{nodes_of}
use Rattle.page_model.specs.PageBoxes.{view_of, inputs_of}
use Rattle.page_documents.specs.Frames.{AreFramed}
use Rattle.element_tree.specs.Forest.{Knot, IsForest, has}
use Rattle.block_layout.specs.Trees.{layout_tree}
use Rattle.block_layout.proofs.Forests.{linked as linked_tree, shallow as shallow_tree}
use Rattle.kept_layout.specs.declared.slots.Slot.{Slot}
use Rattle.kept_layout.specs.declared.slots.Found.{Found}
use Rattle.kept_layout.specs.Slots.{slot_in}
use Rattle.kept_layout.specs.Sound.{IsSound}
use Rattle.kept_layout.specs.Walks.{IsSettled, IsSoundInFlow}
use Rattle.kept_layout.specs.Due.{is_due_at}
use Rattle.kept_layout.specs.Fresh.{IsFresh as IsFreshAt}
use Rattle.kept_layout.proofs.Counts.{settled_so}
use Rattle.kept_layout.proofs.Exact.{Around, sound_in_flow, exact_settled, fresh_under}
use Rattle.kept_layout.proofs.Shapes.{IsShaped, shaped as shaped_tree}
use Rattle.page_boxes.specs.Fresh.{IsFresh}
use Rattle.page_boxes.specs.Kept.{AreKept, FillsOnly, IsExact, is_due}
use Rattle.page_boxes.proofs.Parents.{some_found, child_boxed}
use Rattle.page_boxes.proofs.Owners.{owner_inside}
use Rattle.page_boxes.proofs.Renewed.{inputs_found}
use Rattle.page_boxes.proofs.Rooted.{rooted_in}
use Rattle.page_boxes.proofs.Views.{view_root}
use Rattle.kept_layout.proofs.Wanted.{block_kids}

pub fills_none : (kept : List Slot) → FillsOnly kept kept
fills_none kept = record { marks = λ n is. is; found = λ n is. is }

pub fills_on : (first mid last : List Slot) → FillsOnly first mid → FillsOnly mid last → FillsOnly first last
fills_on first mid last begun more = record { marks = λ n is. more.marks n (begun.marks n is); found = λ n is. more.found n (begun.found n is) }

holds_some : (o : Option Found) {own : Box} → option_map (λ found. found.own) o ≡ Some own → is_some o ≡ true
holds_some None e = cc
holds_some (Some found) e = refl

-- each slot is as it was, or holds a box without a mark
pub fills_fresh : (at : ℕ → Node) (wanted : ℕ → Option Inputs) (first last : List Slot)
    → ((n : ℕ) → wanted n ≡ None → slot_in last n ≡ slot_in first n)
    → ((n : ℕ) (inputs : Inputs) → wanted n ≡ Some inputs → IsFreshAt at (slot_in last) n inputs)
    → FillsOnly first last
fills_fresh at wanted first last others fresh = record { marks = λ n is. unmarked n is (wanted n) refl; found = λ n is. found n is (wanted n) refl }
  where
    unmarked : (n : ℕ) → (slot_in first n).marked ≡ false → (o : Option Inputs) → wanted n ≡ o → (slot_in last n).marked ≡ false
    unmarked n is None none = ap (λ (slot : Slot). slot.marked) (others n none) ∙ is
    unmarked n is (Some inputs) some = (fresh n inputs some).unmarked

    found : (n : ℕ) → is_some (slot_in first n).found ≡ true → (o : Option Inputs) → wanted n ≡ o → is_some (slot_in last n).found ≡ true
    found n is None none = ap (λ (slot : Slot). is_some slot.found) (others n none) ∙ is
    found n is (Some inputs) some = holds_some (slot_in last n).found (fresh n inputs some).box

module _ (tree : Tree) (framed : AreFramed tree) (screen : Screen) where
  -- what has a box in a document's view belongs to that document
  in_own : (document n : ℕ) (inputs : Inputs) → inputs_in_view (nodes_of tree) (view_of tree screen document) n ≡ Some inputs → inputs_of tree screen n ≡ Some inputs
  in_own document n inputs is =
      let there = rooted_in (nodes_of tree) (view_of tree screen document) n inputs is in
      let rooted = view_root tree screen document there.0 there.1.0 in
      let owner = owner_inside tree framed there.0 n there.1.1 ∙ (framed.owners.roots document there.0 rooted).owner in
      inputs_found tree screen n document owner ∙ is

pub exact_here : (tree : Tree) (screen : Screen) (kept : List Slot) {P : Type 0} (style : P → Style) (kind : P → Kind) {most : ℕ} {nodes : List (Knot P)}
    → IsForest most nodes → nodes_of tree ≡ layout_tree style kind nodes → AreKept tree kept → IsExact tree screen kept
exact_here tree screen kept style kind {most} {nodes} forest same fits n inputs is undue =
    let settled = settled_so (slot_in kept n) inputs (ap (λ found. is_due_at found (slot_in kept n)) (sym is) ∙ undue) in
    let at = layout_tree style kind nodes in
    let sound = sound_in_flow at (slot_in kept) (subst (λ at. IsSound at (slot_in kept)) same fits.sound) in
    ap (option_map (λ (found : Found). found.own)) settled.held
    ∙ ap Some (exact_settled at (shaped_tree style kind forest) (linked_tree style kind forest) (shallow_tree style kind forest) (slot_in kept) sound n inputs settled)
    ∙ ap (λ at. Some (box_in at inputs n)) (sym same)

-- where none is due, all boxes are held as they are now
module _ (tree : Tree) (framed : AreFramed tree) (screen : Screen) (kept : List Slot) (none : (n : ℕ) → is_due tree screen kept n ≡ false)
    (at : ℕ → Node) (same : nodes_of tree ≡ at) (shaped : IsShaped at) (linked : IsLinked at) (shallow : IsShallow at) (fits : AreKept tree kept) where
  sound : IsSoundInFlow at (slot_in kept)
  sound = sound_in_flow at (slot_in kept) (subst (λ at. IsSound at (slot_in kept)) same fits.sound)

  settled_in : (document n : ℕ) (inputs : Inputs) → inputs_in_view at (view_of tree screen document) n ≡ Some inputs → IsSettled (slot_in kept n) inputs
  settled_in document n inputs is =
      settled_so (slot_in kept n) inputs
      (ap (λ found. is_due_at found (slot_in kept n)) (sym (in_own tree framed screen document n inputs (ap (λ at. inputs_in_view at (view_of tree screen document) n) same ∙ is)))
      ∙ none n)

  around : (document n : ℕ) (inputs : Inputs) → inputs_in_view at (view_of tree screen document) n ≡ Some inputs → (p : ℕ) → (at n).parent ≡ Some p → Around at (slot_in kept) p n
  around document n inputs is p up =
      let parts = child_boxed at (view_of tree screen document) n p up (shallow p) (ap is_some is) in
      let outer = some_found (inputs_in_view at (view_of tree screen document) p) parts.2 in
      record {
        above = outer.0;
        settled = settled_in document p outer.0 outer.1;
        shown = record { listed = ap (λ kids. has kids n) (block_kids (at p).item.kind (at p).children parts.1) ∙ shaped.listed n p up; shown = parts.0 };
      }

  boxes_in : (document n : ℕ) (inputs : Inputs) → inputs_in_view at (view_of tree screen document) n ≡ Some inputs → IsFreshAt at (slot_in kept) n inputs
  boxes_in document n inputs is = fresh_under at shaped linked shallow (slot_in kept) sound n inputs (settled_in document n inputs is) (around document n inputs is)

  pub fresh_here : IsFresh tree screen kept
  fresh_here = record {
    documents = λ document. record {
      boxes = λ n inputs is.
          subst (λ at. IsFreshAt at (slot_in kept) n inputs) (sym same)
          (boxes_in document n inputs (sym (ap (λ at. inputs_in_view at (view_of tree screen document) n) same) ∙ is));
    };
  }
