-- What placement needs of an ordered tree of elements: the tree itself, and the style that each element carries.
use Rattle.std.specs.Prelude.{◌≡◌, ℕ, List, Some, slice_get}
use Rattle.layout_model.specs.Styles.{Style}
use Rattle.layout_model.specs.Nodes.{Node}
use Rattle.element_tree.specs.Forest.{Knot, parent_of, children_of}

-- the nodes of layout are those of a tree; their kinds don't matter
pub record AreNodesOf {P : Type 0} (placed : P → Style) (nodes : List (Knot P)) (at : ℕ → Node) : Type 0 where
  pub parent : (n : ℕ) → (at n).parent ≡ parent_of nodes n
  pub children : (n : ℕ) → (at n).children ≡ children_of nodes n
  pub style : (n : ℕ) (knot : Knot P) → slice_get nodes n ≡ Some knot → (at n).item.style ≡ placed knot.payload
