-- Nodes of layout that are those of a forest.
use Rattle.std.proofs.Common.{◌≡◌, subst, ℕ, cond, Option, Some, None, List, [], ◌∷◌, slice_get, option_map, refl, ap, sym, ◌∙◌, arith}
use Rattle.std.proofs.lemmas.Bool.{false≢true}
use Rattle.std.specs.Prelude.{is_some, Contains}
use Rattle.layout_model.specs.Styles.{Style, StaticPosition}
use Rattle.layout_model.specs.Nodes.{Node, depth_of, position_of, IsListed, IsShallow}
use Rattle.element_tree.specs.Forest.{Knot, IsForest, parent_of, children_of, depth}
use Rattle.element_tree.proofs.Facts.{listed_child}
use Rattle.element_tree.proofs.Levels.{low_enough}
use Rattle.positioned_layout.specs.Trees.{AreNodesOf}
use Rattle.block_layout.proofs.Forests.{has_contains, as_deep}

module _ {P : Type 0} (style : P → Style) (nodes : List (Knot P)) (at : ℕ → Node) (are : AreNodesOf style nodes at) where
  pub carried_style : (n : ℕ) (carried : P) → option_map (λ k. k.payload) (slice_get nodes n) ≡ Some carried → (at n).item.style ≡ style carried
  carried_style n carried is = found (slice_get nodes n) refl is
    where
      found : (o : Option (Knot P)) → slice_get nodes n ≡ o → option_map (λ k. k.payload) o ≡ Some carried → (at n).item.style ≡ style carried
      found None here none = absurd cc
      found (Some knot) here some = let same : knot.payload ≡ carried = cc in are.style n knot here ∙ ap style same

  pub position_child : (n p : ℕ) (carried : P) → parent_of nodes n ≡ Some p → option_map (λ k. k.payload) (slice_get nodes n) ≡ Some carried → position_of (at n) ≡ (style carried).position
  position_child n p carried up is =
      ap (λ found. cond (is_some found) ((at n).item.style.position) StaticPosition) (are.parent n ∙ up) ∙ ap (λ s. s.position) (carried_style n carried is)

  module _ {most : ℕ} (forest : IsForest most nodes) where
    pub depth_same : (n : ℕ) → depth_of at n ≡ depth nodes n
    depth_same = as_deep forest at are.parent

    pub shallow : IsShallow at
    shallow n = omega (arith, depth_same n, low_enough forest n)

    pub listed : IsListed at
    listed c p up = subst (λ xs. Contains xs c) (sym (are.children p)) (has_contains (children_of nodes p) c (listed_child forest c p (sym (are.parent c) ∙ up)))
