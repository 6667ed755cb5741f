use Rattle.std.proofs.Common.{◌≡◌, option_map}
use Rattle.element_tree.specs.Forest.{is_ancestor, is_above, depth, above}
use Rattle.element_tree.specs.Links.{number}
use Rattle.element_tree.proofs.tree.Tree.is_ancestor.Given as goal

abbrev pub invariant-loop-at : goal.invariant-loop-at
invariant-loop-at g l =
    is_above (is_ancestor l.self.nodes (l.ancestor.0)) (option_map number l.at) ≡ is_ancestor l.self.nodes (l.ancestor.0) (l.fn.node.0)

abbrev pub decreases-loop-at : goal.decreases-loop-at
decreases-loop-at g l = above (depth l.self.nodes) (option_map number l.at)
