use Rattle.std.proofs.Common.{◌≡◌, ◌-◌, max, option_map, length, Some, true, ℕ}
use Rattle.element_tree.specs.Forest.{height, depth, greatest, rest_from, children_of, has, most_levels}
use Rattle.element_tree.specs.Links.{number}
use Rattle.element_tree.proofs.tree.Tree.+height.Given as goal

abbrev pub decreases-height : goal.decreases-height
decreases-height g l = most_levels - depth l.self.now.nodes (l.node.0)

abbrev pub invariant-loop-next : goal.invariant-loop-next
invariant-loop-next g l = record {
  best : max l.below (greatest (height l.self.nodes) (rest_from (option_map number l.next) (children_of l.self.nodes (l.fn.node.0))))
      ≡ greatest (height l.self.nodes) (children_of l.self.nodes (l.fn.node.0));
  among : (c : ℕ) → option_map number l.next ≡ Some c → has (children_of l.self.nodes (l.fn.node.0)) c ≡ true;
}

abbrev pub decreases-loop-next : goal.decreases-loop-next
decreases-loop-next g l = length (rest_from (option_map number l.next) (children_of l.self.nodes (l.fn.node.0)))
