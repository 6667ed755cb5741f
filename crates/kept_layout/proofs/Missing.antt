-- What layout sees of a number that no node of a tree has.
use Rattle.std.proofs.Common.{◌≡◌, ◌≤◌, ℕ, true, List, length, inl, inr, ap, sym, ◌∙◌}
use Rattle.std.proofs.lemmas.Bool.{false≢true}
use Rattle.std.proofs.lemmas.Option.{slice_get_past}
use Rattle.std.specs.Prelude.{is_some}
use Rattle.layout_model.specs.Styles.{Style}
use Rattle.layout_model.specs.Items.{Kind}
use Rattle.layout_model.specs.Nodes.{Node, missing_node, IsShallow}
use Rattle.layout_model.specs.Views.{View, view_inputs, inputs_in_view}
use Rattle.layout_model.proofs.Ancestors.{option_cases}
use Rattle.layout_model.proofs.Inputs.{boxed_child, boxed_top, inputs_boxed, view_root}
use Rattle.element_tree.specs.Forest.{Knot, IsForest}
use Rattle.block_layout.specs.Trees.{layout_tree, node_in}
use Rattle.block_layout.proofs.Forests.{shallow}

pub missing_past : {P : Type 0} (style : P → Style) (kind : P → Kind) (nodes : List (Knot P)) (n : ℕ) → length nodes ≤ n → layout_tree style kind nodes n ≡ missing_node
unfolding layout_tree
missing_past style kind nodes n past = ap (node_in style kind) (slice_get_past nodes n past)

hidden_unboxed : (at : ℕ → Node) → IsShallow at → (view : View) (n : ℕ) → (at n).item.style.hidden ≡ true → is_some (inputs_in_view at view n) ≡ true → ⊥
hidden_unboxed at short view n hidden boxed =
    elim (option_cases (inputs_in_view at view n)) [
      | inl none ↦ false≢true (sym (ap is_some none) ∙ boxed)
      | inr own ↦
          let found = view_root at view own.0 n own.1 in
          let box = inputs_boxed at found.0 (view_inputs view) own.0 n found.2 in
          elim (option_cases (at n).parent) [
            | inl top ↦ false≢true (sym ((boxed_top at found.0 n top box).0) ∙ hidden)
            | inr p ↦ false≢true (sym ((boxed_child at found.0 n p.0 p.1 (short p.0) box).0) ∙ hidden)
          ]
    ]

pub unboxed_past : {P : Type 0} (style : P → Style) (kind : P → Kind) {most : ℕ} {nodes : List (Knot P)} → IsForest most nodes → (view : View) (n : ℕ) → length nodes ≤ n
    → is_some (inputs_in_view (layout_tree style kind nodes) view n) ≡ true → ⊥
unboxed_past style kind {nodes = nodes} forest view n past boxed =
    hidden_unboxed (layout_tree style kind nodes) (shallow style kind forest) view n (ap (λ (node : Node). node.item.style.hidden) (missing_past style kind nodes n past)) boxed
