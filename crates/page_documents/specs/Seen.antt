-- A tree of elements and a list of documents, seen as the elements and documents of a world.
use Rattle.std.specs.Prelude.{ℕ, Option, List, map}
use Rattle.layout_model.specs.Items.{Item}
use Rattle.page_model.specs.World.{Element, Document, Tree}
use Rattle.element_tree.specs.Forest.{Knot, Forest}

-- what an element carries besides its place in the tree
pub record Carried : Type 0 where
  pub item : Item
  pub document : ℕ
  pub framed : Option ℕ

module _ {P : Type 0} (carried : P → Carried) where
  abbrev pub element_of : Knot P → Element
  element_of knot = record {
    item = (carried knot.payload).item;
    parent = knot.parent;
    children = knot.children;
    document = (carried knot.payload).document;
    framed = (carried knot.payload).framed;
  }

  abbrev pub seen_tree : Forest P → List Document → Tree
  seen_tree forest documents = record { elements = map element_of forest.nodes; documents = documents }
