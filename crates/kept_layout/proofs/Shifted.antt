-- From the corner of the parent's border box to where a node's own is in the flow, by what is held.
use Rattle.std.proofs.Common.{◌≡◌, ◌+◌, ℕ, List, true, Option, Some, None, ap, sym, ◌∙◌, arith}
use Rattle.std.specs.Prelude.{option_map}
use Rattle.px_units.specs.Lengths.{cap}
use Rattle.layout_model.specs.Styles.{Style}
use Rattle.layout_model.specs.Items.{Kind}
use Rattle.layout_model.specs.Nodes.{Node, is_in_path}
use Rattle.layout_model.specs.Boxes.{Inputs, Box, child_inputs, box_in}
use Rattle.layout_model.specs.Points.{capped}
use Rattle.layout_model.specs.Views.{View, inputs_in_view}
use Rattle.layout_model.specs.FlatPlaces.{offset_of, height_above}
use Rattle.layout_model.proofs.Ancestors.{in_self, above_in}
use Rattle.layout_model.proofs.Offsets.{offset_found, offset_top}
use Rattle.element_tree.specs.Forest.{Knot, IsForest, parent_of}
use Rattle.block_layout.specs.Trees.{layout_tree}
use Rattle.block_layout.proofs.Forests.{shallow}
use Rattle.block_layout.proofs.Nodes.{parent_is}
use Rattle.kept_layout.specs.declared.slots.Slot.{Slot}
use Rattle.kept_layout.specs.declared.slots.Found.{Found}
use Rattle.kept_layout.specs.Fresh.{IsFresh, IsFreshPath}
use Rattle.kept_layout.proofs.Climbed.{pair_is}
use Rattle.kept_layout.proofs.Measuring.{boxed_up}

-- what is read of a slot that holds something
read_of : {A : Type 0} (read : Found → A) (o : Option Found) (a : Found) (found : A) → o ≡ Some a → option_map read o ≡ Some found → read a ≡ found
read_of read o a found first second = let same : Some (read a) ≡ Some found = sym (ap (option_map read) first) ∙ second in cc

none_held : {A : Type 0} (read : Found → A) (o : Option Found) (found : A) → o ≡ None → option_map read o ≡ Some found → ⊥
none_held read o found first second = let clash : None ≡ Some found = sym (ap (option_map read) first) ∙ second in cc

abbrev own_of : Found → Box
own_of found = found.own

-- the offset of a child, whose parent's box and own box are these
module _ (at : ℕ → Node) (view : View) (c p : ℕ) (is : (at c).parent ≡ Some p) (inputs own : Inputs) (found : inputs_in_view at view p ≡ Some inputs) (found_own : inputs_in_view at view c ≡ Some own) where
  across_of : (offset_of at view c).0 ≡ cap ((box_in at inputs p).border.left + (box_in at inputs p).padding.left + (box_in at own c).margin.left)
  unfolding box_in
  across_of = ap (λ offset. offset.0) (offset_found at view inputs own c p is found found_own) ∙ ap cap (omega arith)

  down_of : (offset_of at view c).1 ≡ cap ((box_in at inputs p).border.top + (box_in at inputs p).padding.top + height_above at (child_inputs ((at p).item) inputs) (at p) c + (box_in at own c).margin.top)
  unfolding box_in
  down_of = ap (λ offset. offset.1) (offset_found at view inputs own c p is found found_own)

  offset_by_boxes : (outer inner : Box) → outer ≡ box_in at inputs p → inner ≡ box_in at own c → (above : ℕ) → above ≡ cap (height_above at (child_inputs ((at p).item) inputs) (at p) c)
      → (across down : ℕ) → across ≡ cap (outer.border.left + outer.padding.left + inner.margin.left) → down ≡ cap (outer.border.top + outer.padding.top + cap above + inner.margin.top)
      → ◌≡◌ {A = ℕ × ℕ} (across, down) (offset_of at view c)
  offset_by_boxes outer inner first second above heights across down wide tall =
      pair_is across down (offset_of at view c)
      (wide ∙ ap (λ (b : Box). cap (b.border.left + b.padding.left + inner.margin.left)) first
      ∙ ap (λ (b : Box). cap ((box_in at inputs p).border.left + (box_in at inputs p).padding.left + b.margin.left)) second ∙ sym across_of)
      (tall ∙ ap (λ (b : Box). cap (b.border.top + b.padding.top + cap above + inner.margin.top)) first
      ∙ ap (λ (b : Box). cap ((box_in at inputs p).border.top + (box_in at inputs p).padding.top + cap above + b.margin.top)) second
      ∙ summed ((box_in at inputs p).border.top + (box_in at inputs p).padding.top) (height_above at (child_inputs ((at p).item) inputs) (at p) c) ((box_in at own c).margin.top) above heights ∙ sym down_of)
    where
      summed : (x h y above : ℕ) → above ≡ cap h → cap (x + cap above + y) ≡ cap (x + h + y)
      summed x h y above e = omega arith

root_is : (at : ℕ → Node) (view : View) (n : ℕ) → (at n).parent ≡ None → (inputs : Inputs) → inputs_in_view at view n ≡ Some inputs
    → offset_of at view n ≡ capped ((box_in at inputs n).margin.left, (box_in at inputs n).margin.top)
unfolding box_in
root_is at view n is inputs found = offset_top at view inputs n is found

-- by what is held for a node and its ancestors
module _ {P : Type 0} (style : P → Style) (kind : P → Kind) {most : ℕ} {nodes : List (Knot P)} (forest : IsForest most nodes)
    (view : View) (slot : ℕ → Slot) (n : ℕ) (fresh : IsFreshPath (layout_tree style kind nodes) view slot n) where
  abbrev tree : ℕ → Node
  tree = layout_tree style kind nodes

  found_up : (m : ℕ) → is_in_path tree m n ≡ true → (inputs : Inputs) × (inputs_in_view tree view m ≡ Some inputs)
  found_up m inside = boxed_up tree (shallow style kind forest) view n fresh.boxed m inside

  fresh_up : (m : ℕ) (inside : is_in_path tree m n ≡ true) → IsFresh tree slot m (found_up m inside).0
  fresh_up m inside = let found = found_up m inside in fresh.path m found.0 inside found.1

  missing_up : (m : ℕ) → is_in_path tree m n ≡ true → (slot m).found ≡ None → ⊥
  missing_up m inside none = none_held own_of (slot m).found (box_in tree (found_up m inside).0 m) none (fresh_up m inside).box

  pub own_missing : (slot n).found ≡ None → ⊥
  own_missing none = missing_up n (in_self tree n) none

  module _ (p : ℕ) (up : parent_of nodes n ≡ Some p) where
    parent_same : (tree n).parent ≡ Some p
    parent_same = parent_is style kind nodes n ∙ up

    inside : is_in_path tree p n ≡ true
    inside = above_in tree (shallow style kind forest) p n p parent_same (in_self tree p)

    pub outer_missing : (slot p).found ≡ None → ⊥
    outer_missing none = missing_up p inside none

    pub child_shift : (own outer : Found) → (slot n).found ≡ Some own → (slot p).found ≡ Some outer
        → (across down : ℕ) → across ≡ cap (outer.own.border.left + outer.own.padding.left + own.own.margin.left) → down ≡ cap (outer.own.border.top + outer.own.padding.top + cap (slot n).above + own.own.margin.top)
        → ◌≡◌ {A = ℕ × ℕ} (across, down) (offset_of tree view n)
    child_shift own outer first second across down wide tall =
        let around = found_up p inside in
        let inner = found_up n (in_self tree n) in
        offset_by_boxes tree view n p parent_same around.0 inner.0 around.1 inner.1 outer.own own.own
        (read_of own_of (slot p).found outer (box_in tree around.0 p) second (fresh_up p inside).box)
        (read_of own_of (slot n).found own (box_in tree inner.0 n) first (fresh_up n (in_self tree n)).box)
        (slot n).above
        ((fresh_up n (in_self tree n)).above p around.0 parent_same (fresh_up p inside).from)
        across down wide tall

  pub root_shift : parent_of nodes n ≡ None → (own : Found) → (slot n).found ≡ Some own → (across down : ℕ) → across ≡ cap own.own.margin.left → down ≡ cap own.own.margin.top
      → ◌≡◌ {A = ℕ × ℕ} (across, down) (offset_of tree view n)
  root_shift top own found across down wide tall =
      let inner = found_up n (in_self tree n) in
      pair_is across down (capped (own.own.margin.left, own.own.margin.top)) wide tall
      ∙ ap (λ (b : Box). capped (b.margin.left, b.margin.top)) (read_of own_of (slot n).found own (box_in tree inner.0 n) found (fresh_up n (in_self tree n)).box)
      ∙ sym (root_is tree view n (parent_is style kind nodes n ∙ top) inner.0 inner.1)
