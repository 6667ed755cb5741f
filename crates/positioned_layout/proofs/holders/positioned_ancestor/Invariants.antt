use Rattle.std.proofs.Common.{◌≡◌, ◌<◌, ℕ, Some, length, option_map}
use Rattle.std.specs.Prelude.{find}
use Rattle.layout_model.specs.Nodes.{Node, path_above, path_of, ancestors_of, is_positioned}
use Rattle.element_tree.specs.Forest.{above, depth}
use Rattle.element_tree.specs.Links.{number}
use Rattle.positioned_layout.specs.Trees.{AreNodesOf}
use Rattle.positioned_layout.proofs.holders.positioned_ancestor.Given as goal

abbrev pub invariant-loop-up : goal.invariant-loop-up
invariant-loop-up g l = record {
  inside : (a : ℕ) → option_map number l.up ≡ Some a → (a < length l.tree.nodes) × (depth l.tree.nodes a < depth l.tree.nodes (l.fn.node.0));
  found : (at : ℕ → Node) → AreNodesOf g.P.Placed.placed l.tree.nodes at →
      find (λ a. is_positioned (at a)) (ancestors_of at (l.fn.node.0)) ≡ find (λ a. is_positioned (at a)) (path_above (path_of at) (option_map number l.up));
}

abbrev pub decreases-loop-up : goal.decreases-loop-up
decreases-loop-up g l = above (depth l.tree.nodes) (option_map number l.up)
