-- What layout sees of an ordered tree of elements.
use Rattle.std.specs.Prelude.{ℕ, List, Option, Some, None, slice_get}
use Rattle.layout_model.specs.Styles.{Style}
use Rattle.layout_model.specs.Items.{Kind}
use Rattle.layout_model.specs.Nodes.{Node, missing_node}
use Rattle.element_tree.specs.Forest.{Knot}

-- the style and the kind of an element are read from what it carries
module _ {P : Type 0} (style : P → Style) (kind : P → Kind) where
  abbrev pub node_in : Option (Knot P) → Node
  node_in None = missing_node
  node_in (Some knot) = record {
    item = record { style = style knot.payload; kind = kind knot.payload };
    parent = knot.parent;
    children = knot.children;
  }

  unfoldable pub layout_tree : List (Knot P) → ℕ → Node
  layout_tree nodes n = node_in (slice_get nodes n)
