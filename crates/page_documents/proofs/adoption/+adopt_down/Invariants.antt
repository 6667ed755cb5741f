use Rattle.std.proofs.Common.{◌≡◌, ℕ, ◌-◌, length, Some, true, option_map}
use Rattle.element_tree.specs.Forest.{children_of, rest_from, has}
use Rattle.element_tree.specs.Links.{number}
use Rattle.page_documents.proofs.Adopting.{Adopts}
use Rattle.page_documents.proofs.adoption.+adopt_down.Given as goal

abbrev pub decreases-adopt_down : goal.decreases-adopt_down
decreases-adopt_down g l = l.high

abbrev pub invariant-loop-next : goal.invariant-loop-next
invariant-loop-next g l = record {
  among : (c : ℕ) → option_map number l.next ≡ Some c → has (children_of l.fn.tree.nodes (l.fn.node.0)) c ≡ true;
  adopts : Adopts (g.P.Owned.carried) (g.P.Owned.adopted) l.document.0 l.fn.tree l.tree (l.high - 1) (l.fn.node.0)
      (rest_from (option_map number l.next) (children_of l.fn.tree.nodes (l.fn.node.0)));
}

abbrev pub decreases-loop-next : goal.decreases-loop-next
decreases-loop-next g l = length (rest_from (option_map number l.next) (children_of l.fn.tree.nodes (l.fn.node.0)))
