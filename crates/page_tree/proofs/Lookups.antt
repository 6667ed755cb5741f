-- What a page finds at the number of a node.
use Rattle.std.proofs.Common.{◌≡◌, ◌<◌, ℕ, List, length, Option, Some, None, IfSome, option_map, slice_get, refl, ap, sym, ◌∙◌}
use Rattle.page_model.specs.World.{Document, Tree}
use Rattle.page_model.specs.Lookups.{document_at}
use Rattle.page_model.specs.Documents.{nodes_of, node_of}
use Rattle.element_tree.specs.declared.node.NodeId.{NodeId}
use Rattle.element_tree.specs.Forest.{Knot, Forest}
use Rattle.element_tree.specs.Links.{number}
use Rattle.block_layout.specs.Trees.{layout_tree as tree_in, node_in}
use Rattle.page_documents.specs.Seen.{seen_tree}
use Rattle.page_documents.specs.Frames.{AreFramed}
use Rattle.page_documents.proofs.Seen.{found, element_seen}
use Rattle.page_tree.specs.Items.{Described, carried_in, style_in, kind_in}

found_node : (it : Option (Knot Described)) → node_of (found carried_in it) ≡ node_in style_in kind_in it
found_node None = refl
found_node (Some knot) = refl

-- functions that agree everywhere are equal
pub pointwise : {A B : Type 0} {f g : A → B} → ((x : A) → f x ≡ g x) → f ≡ g
pointwise each = λ i x. each x i

module _ (forest : Forest Described) (documents : List Document) where
  pub tree_found : nodes_of (seen_tree carried_in forest documents) ≡ tree_in style_in kind_in forest.nodes
  unfolding tree_in
  tree_found = pointwise (λ n. ap node_of (element_seen carried_in forest documents n) ∙ found_node (slice_get forest.nodes n))

-- a root element is there
pub root_known : (tree : Tree) → AreFramed tree → (document : ℕ) (found : Option NodeId) → option_map number found ≡ (document_at tree document).root
    → IfSome found (λ root. root.0 < length tree.elements)
root_known tree framed document None is = tt
root_known tree framed document (Some root) is = (framed.owners.roots document (root.0) (sym is)).known
