use Rattle.std.proofs.Common.{◌≡◌, ℕ, ◌-◌, ◌++◌, ◌∷◌, length, map, flat_map, Some, true, option_map}
use Rattle.element_tree.specs.Forest.{children_of, rest_from, has}
use Rattle.element_tree.specs.Links.{number}
use Rattle.hit_test.specs.Painting.{painted_down}
use Rattle.hit_test.proofs.painting.+paint_down.Given as goal

abbrev pub decreases-paint_down : goal.decreases-paint_down
decreases-paint_down l = l.high

abbrev pub invariant-loop-next : goal.invariant-loop-next
invariant-loop-next l = record {
  among : (c : ℕ) → option_map number l.next ≡ Some c → has (children_of l.tree.nodes (l.fn.node.0)) c ≡ true;
  so_far : map number l.painted.items
      ++ flat_map (painted_down (l.high - 1) l.page.tree) (rest_from (option_map number l.next) (children_of l.tree.nodes (l.fn.node.0)))
      ≡ map number l.fn.painted.items ++ l.fn.node.0 ∷ flat_map (painted_down (l.high - 1) l.page.tree) (children_of l.tree.nodes (l.fn.node.0));
}

abbrev pub decreases-loop-next : goal.decreases-loop-next
decreases-loop-next l = length (rest_from (option_map number l.next) (children_of l.tree.nodes (l.fn.node.0)))
