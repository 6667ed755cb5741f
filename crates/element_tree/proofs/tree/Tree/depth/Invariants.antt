use Rattle.std.proofs.Common.{◌≡◌, ◌+◌}
use Rattle.element_tree.specs.Forest.{depth}
use Rattle.element_tree.proofs.tree.Tree.depth.Given as goal

abbrev pub invariant-loop-parent : goal.invariant-loop-parent
invariant-loop-parent g l = l.depth + depth l.self.nodes (l.at.0) ≡ depth l.self.nodes (l.fn.node.0) + 1

abbrev pub decreases-loop-parent : goal.decreases-loop-parent
decreases-loop-parent g l = depth l.self.nodes (l.at.0)
