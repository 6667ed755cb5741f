use Rattle.std.proofs.Common.{◌≡◌, ℕ, ◌-◌, ◌++◌, ◌∷◌, [], filter, length, map, flat_map, Some, true, option_map}
use Rattle.element_tree.specs.Forest.{children_of, rest_from, has}
use Rattle.element_tree.specs.Links.{number}
use Rattle.page_model.specs.Shown.{has_box}
use Rattle.box_inspector.proofs.Listed.{below}
use Rattle.box_inspector.proofs.boxed.+list_down.Given as goal

abbrev pub decreases-list_down : goal.decreases-list_down
decreases-list_down l = l.high

abbrev pub invariant-loop-next : goal.invariant-loop-next
invariant-loop-next l = record {
  among : (c : ℕ) → option_map number l.next ≡ Some c → has (children_of l.tree.nodes (l.fn.node.0)) c ≡ true;
  so_far : map number l.listed.items
      ++ flat_map (below l.shown (l.high - 1)) (rest_from (option_map number l.next) (children_of l.tree.nodes (l.fn.node.0)))
      ≡ (map number l.fn.listed.items ++ filter (has_box l.shown) (l.fn.node.0 ∷ []))
      ++ flat_map (below l.shown (l.high - 1)) (children_of l.tree.nodes (l.fn.node.0));
}

abbrev pub decreases-loop-next : goal.decreases-loop-next
decreases-loop-next l = length (rest_from (option_map number l.next) (children_of l.tree.nodes (l.fn.node.0)))
