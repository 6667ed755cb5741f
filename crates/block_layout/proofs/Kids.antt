-- A walk over the children of a node that may have boxes: `next` is the child to come, `after` the sibling behind it.
use Rattle.std.proofs.Common.{◌≡◌, ◌≤◌, ◌<◌, ℕ, ◌+◌, List, [], ◌∷◌, length, Option, Some, None, option_map, Bool, true, false, refl, ap, sym, ◌∙◌, arith}
use Rattle.std.proofs.lemmas.List.Sums.{sum_by-cons}
use Rattle.std.specs.Prelude.{sum_by}
use Rattle.px_units.specs.Lengths.{cap}
use Rattle.layout_model.specs.Styles.{Style}
use Rattle.layout_model.specs.Items.{Kind, BlockKind, ImageKind, FrameKind}
use Rattle.layout_model.specs.Nodes.{Node, IsLinked, IsShallow}
use Rattle.layout_model.specs.Boxes.{Inputs, Box, inner_children, kids_of, is_passed, counted, shown_height, margin_height, total, computed, child_inputs, box_at, box_in}
use Rattle.block_layout.specs.Far.{open_kids}
use Rattle.layout_model.proofs.Trees.{box_of_children}
use Rattle.element_tree.specs.declared.node.NodeId.{NodeId}
use Rattle.element_tree.specs.Forest.{Knot, IsForest, has, children_of, siblings_of, next_of, first_of, rest_from, depth}
use Rattle.element_tree.specs.Links.{node_ids, number}
use Rattle.element_tree.proofs.Facts.{child_in_range}
use Rattle.element_tree.proofs.Levels.{kid_depth, some_names}
use Rattle.element_tree.proofs.Lists.{rest_all, first_has}
use Rattle.element_tree.proofs.Walks.{back_numbers, walk_step, walk_on}
use Rattle.block_layout.specs.Counts.{if_displayed, box_count}
use Rattle.block_layout.specs.Trees.{layout_tree}
use Rattle.block_layout.proofs.Nodes.{children_is}
use Rattle.block_layout.proofs.Totals.{count_of_kids}

-- the nodes to come
abbrev pub rest : Option NodeId → List ℕ → List ℕ
rest next kids = rest_from (option_map number next) kids

-- the next node is one of these
abbrev pub IsAmong : List ℕ → Option NodeId → Type 0
IsAmong kids next = (c : ℕ) → option_map number next ≡ Some c → has kids c ≡ true

pub rest_first : (kids : List ℕ) (next : Option NodeId) → next ≡ node_ids (first_of kids) → rest next kids ≡ kids
rest_first kids next is =
    ap (λ (o : Option NodeId). rest o kids) is ∙ ap (λ o. rest_from o kids) (back_numbers _) ∙ rest_all kids

pub among_first : (kids : List ℕ) (next : Option NodeId) → next ≡ node_ids (first_of kids) → IsAmong kids next
among_first kids next is c met =
    first_has c kids (some_names _ c (sym (ap (λ (o : Option NodeId). option_map number o) is ∙ back_numbers _) ∙ met))

pub rest_none : (kids : List ℕ) (next : Option NodeId) → next ≡ None → rest next kids ≡ []
rest_none kids next is = ap (λ (o : Option NodeId). rest o kids) is

-- what is known of a child that a walk meets
pub record Met {P : Type 0} (nodes : List (Knot P)) (kids : List ℕ) (n : ℕ) (next after : Option NodeId) (child : NodeId) : Type 0 where
  pub here : has kids (child.0) ≡ true
  pub inside : child.0 < length nodes
  pub deeper : depth nodes (child.0) ≡ depth nodes n + 1
  pub step : rest next kids ≡ child.0 ∷ rest after kids
  pub among : IsAmong kids after

pub inner_some : (kind : Kind) (children : List ℕ) (c : ℕ) → has (inner_children kind children) c ≡ true → inner_children kind children ≡ children
inner_some BlockKind children c kid = refl
inner_some (ImageKind width height) children c kid = cc
inner_some FrameKind children c kid = cc

module _ {P : Type 0} {most : ℕ} {nodes : List (Knot P)} (forest : IsForest most nodes) (n : ℕ) (kids : List ℕ)
    (next : Option NodeId) (child : NodeId) (is : next ≡ Some child) (among : IsAmong kids next) (same : kids ≡ children_of nodes n) where
  pub here_of : has (children_of nodes n) (child.0) ≡ true
  here_of = ap (λ xs. has xs (child.0)) (sym same) ∙ among (child.0) (ap (λ (o : Option NodeId). option_map number o) is)

  among_children : IsAmong (children_of nodes n) next
  among_children c met = ap (λ xs. has xs c) (sym same) ∙ among c met

  pub met_in : (after : Option NodeId) → after ≡ node_ids (next_of (child.0) (siblings_of nodes (child.0))) → Met nodes kids n next after child
  met_in after after_is = record {
    here = among (child.0) (ap (λ (o : Option NodeId). option_map number o) is);
    inside = child_in_range forest n (child.0) here_of;
    deeper = kid_depth forest n (child.0) here_of;
    step = ap (rest next) same ∙ walk_step forest n next child is among_children after after_is ∙ ap (λ xs. child.0 ∷ rest after xs) (sym same);
    among = λ c met. ap (λ xs. has xs c) same ∙ walk_on forest n next child is among_children after after_is c met;
  }

module _ {P : Type 0} (style : P → Style) (kind : P → Kind) {most : ℕ} {nodes : List (Knot P)} (forest : IsForest most nodes) (n : ℕ)
    (next : Option NodeId) (child : NodeId) (is : next ≡ Some child) (among : IsAmong (kids_of (layout_tree style kind nodes n)) next) where
  kids_same : kids_of (layout_tree style kind nodes n) ≡ children_of nodes n
  kids_same =
      inner_some ((layout_tree style kind nodes n).item.kind) ((layout_tree style kind nodes n).children) (child.0) (among (child.0) (ap (λ (o : Option NodeId). option_map number o) is))
      ∙ children_is style kind nodes n

  pub kid_here : has (children_of nodes n) (child.0) ≡ true
  kid_here = here_of forest n (kids_of (layout_tree style kind nodes n)) next child is among kids_same

  pub met : (after : Option NodeId) → after ≡ node_ids (next_of (child.0) (siblings_of nodes (child.0))) → Met nodes (kids_of (layout_tree style kind nodes n)) n next after child
  met after after_is = met_in forest n (kids_of (layout_tree style kind nodes n)) next child is among kids_same after after_is

some_open : (closed : Bool) (kids : List ℕ) (c : ℕ) → has (open_kids closed kids) c ≡ true → open_kids closed kids ≡ kids
some_open true kids c kid = cc
some_open false kids c kid = refl

module _ {P : Type 0} (style : P → Style) (kind : P → Kind) {most : ℕ} {nodes : List (Knot P)} (forest : IsForest most nodes) (n : ℕ) (closed : Bool)
    (next : Option NodeId) (child : NodeId) (is : next ≡ Some child) (among : IsAmong (open_kids closed (kids_of (layout_tree style kind nodes n))) next) where
  open_here : has (open_kids closed (kids_of (layout_tree style kind nodes n))) (child.0) ≡ true
  open_here = among (child.0) (ap (λ (o : Option NodeId). option_map number o) is)

  open_all : open_kids closed (kids_of (layout_tree style kind nodes n)) ≡ kids_of (layout_tree style kind nodes n)
  open_all = some_open closed (kids_of (layout_tree style kind nodes n)) (child.0) open_here

  pub open_kid : has (kids_of (layout_tree style kind nodes n)) (child.0) ≡ true
  open_kid = ap (λ xs. has xs (child.0)) (sym open_all) ∙ open_here

  open_same : open_kids closed (kids_of (layout_tree style kind nodes n)) ≡ children_of nodes n
  open_same = open_all ∙ inner_some ((layout_tree style kind nodes n).item.kind) ((layout_tree style kind nodes n).children) (child.0) open_kid ∙ children_is style kind nodes n

  pub open_child : has (children_of nodes n) (child.0) ≡ true
  open_child = here_of forest n (open_kids closed (kids_of (layout_tree style kind nodes n))) next child is among open_same

  pub open_met : (after : Option NodeId) → after ≡ node_ids (next_of (child.0) (siblings_of nodes (child.0))) → Met nodes (open_kids closed (kids_of (layout_tree style kind nodes n))) n next after child
  open_met after after_is = met_in forest n (open_kids closed (kids_of (layout_tree style kind nodes n))) next child is among open_same after after_is

-- how far the heights and the steps of a walk have come
pub record Sums (at : ℕ → Node) (box : ℕ → Box) (kids left : List ℕ) (inside first now : ℕ) : Type 0 where
  pub capped : inside ≤ 2147483647
  pub heights : cap (inside + sum_by (counted at box) left) ≡ total at box kids
  pub steps : now + sum_by (λ c. if_displayed (is_passed (at c)) (box_count at c)) left ≡ first + sum_by (λ c. if_displayed (is_passed (at c)) (box_count at c)) kids

module _ (at : ℕ → Node) (box : ℕ → Box) (kids : List ℕ) where
  pub sums_begin : (left : List ℕ) (steps : ℕ) → left ≡ kids → Sums at box kids left 0 steps steps
  unfolding total
  sums_begin left steps whole = record {
    capped = omega arith;
    heights = ap (λ xs. cap (0 + sum_by (counted at box) xs)) whole ∙ ap cap (omega arith);
    steps = ap (λ xs. steps + sum_by (λ c. if_displayed (is_passed (at c)) (box_count at c)) xs) whole;
  }

  counted_as : (c : ℕ) (passed : Bool) → is_passed (at c) ≡ passed → counted at box c ≡ shown_height box c passed
  unfolding counted
  counted_as c passed is = ap (shown_height box c) is

  module _ (left more : List ℕ) (c inside first now : ℕ) (step : left ≡ c ∷ more) (sums : Sums at box kids left inside first now) where
    heights_cons : sum_by (counted at box) left ≡ counted at box c + sum_by (counted at box) more
    heights_cons = ap (sum_by (counted at box)) step ∙ sum_by-cons (counted at box) c more

    steps_cons : sum_by (λ c. if_displayed (is_passed (at c)) (box_count at c)) left ≡ if_displayed (is_passed (at c)) (box_count at c) + sum_by (λ c. if_displayed (is_passed (at c)) (box_count at c)) more
    steps_cons = ap (sum_by (λ c. if_displayed (is_passed (at c)) (box_count at c))) step ∙ sum_by-cons (λ c. if_displayed (is_passed (at c)) (box_count at c)) c more

    pub sums_passed : is_passed (at c) ≡ true → (sum steps : ℕ) → sum ≡ inside → steps ≡ now → Sums at box kids more sum first steps
    sums_passed passed sum steps same paid =
        let nothing : counted at box c ≡ 0 = counted_as c true passed in
        let none : if_displayed (is_passed (at c)) (box_count at c) ≡ 0 = ap (λ h. if_displayed h (box_count at c)) passed in
        let fewer : sum + sum_by (counted at box) more ≡ inside + sum_by (counted at box) left = omega (arith, heights_cons) in
        record {
          capped = omega (arith, sums.capped);
          heights = ap cap fewer ∙ sums.heights;
          steps = omega (arith, steps_cons, sums.steps);
        }

    pub sums_stacked : is_passed (at c) ≡ false → (sum steps : ℕ) → sum ≡ cap (inside + margin_height (box c)) → steps ≡ now + box_count at c → Sums at box kids more sum first steps
    sums_stacked stacked sum steps is paid =
        let height : counted at box c ≡ margin_height (box c) = counted_as c false stacked in
        let one : if_displayed (is_passed (at c)) (box_count at c) ≡ box_count at c = ap (λ h. if_displayed h (box_count at c)) stacked in
        let same : cap (sum + sum_by (counted at box) more) ≡ cap (inside + sum_by (counted at box) left) = omega (arith, heights_cons) in
        record {
          capped = omega arith;
          heights = same ∙ sums.heights;
          steps = omega (arith, steps_cons, sums.steps);
        }

-- what a walk has summed at its end gives the box
module _ (at : ℕ → Node) (linked : IsLinked at) (shallow : IsShallow at) (inputs within : Inputs) (n : ℕ) (is : within ≡ child_inputs ((at n).item) inputs)
    (left : List ℕ) (inside first now : ℕ) (sums : Sums at (box_in at within) (kids_of (at n)) left inside first now) (done : left ≡ []) where
  pub box_done : computed ((at n).item) inputs inside ≡ box_in at inputs n
  unfolding box_at
  box_done =
      let whole : cap (inside + sum_by (counted at (box_in at within)) left) ≡ inside
      = ap (λ xs. cap (inside + sum_by (counted at (box_in at within)) xs)) done ∙ omega (arith, sums.capped) in
      ap (computed ((at n).item) inputs) (sym whole ∙ sums.heights ∙ ap (λ i. total at (box_in at i) (kids_of (at n))) is) ∙ sym (box_of_children at linked shallow inputs n)

  pub steps_done : now + 1 ≡ first + box_count at n
  steps_done =
      let none : sum_by (λ c. if_displayed (is_passed (at c)) (box_count at c)) left ≡ 0 = ap (sum_by (λ c. if_displayed (is_passed (at c)) (box_count at c))) done in
      omega (arith, sums.steps, count_of_kids at linked shallow n)
