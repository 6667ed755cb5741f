use Rattle.std.proofs.Common.{◌≡◌, ℕ, ◌+◌, ◌-◌, ◌*◌, length, Some, true, option_map}
use Rattle.element_tree.specs.Forest.{children_of, rest_from, has}
use Rattle.element_tree.specs.Links.{number}
use Rattle.page_model.specs.Documents.{led_to}
use Rattle.page_documents.specs.States.{is_in}
use Rattle.page_documents.specs.Seen.{seen_tree}
use Rattle.page_documents.specs.Walks.{frames_down, taken}
use Rattle.page_documents.proofs.Leading.{led_kids}
use Rattle.page_documents.proofs.finding.+finding.Given as goal

abbrev pub decreases-find_from : goal.decreases-find_from
decreases-find_from g l = l.deep * 65538

abbrev pub decreases-find_in : goal.decreases-find_in
decreases-find_in g l = l.deep * 65538 + l.high + 1

abbrev pub invariant-find_in-loop-next : goal.invariant-find_in-loop-next
invariant-find_in-loop-next g l = record {
  among : (c : ℕ) → option_map number l.next ≡ Some c → has (children_of l.tree.nodes (l.fn.node.0)) c ≡ true;
  walk : taken (g.F.Finder.with) (led_kids (is_in l.state) (seen_tree (g.P.Owned.carried) l.tree l.entries) (g.F.Finder.with) l.deep (l.high - 1)
      (rest_from (option_map number l.next) (children_of l.tree.nodes (l.fn.node.0)))) l.finder
      ≡ taken (g.F.Finder.with) (led_to l.deep (is_in l.state) (seen_tree (g.P.Owned.carried) l.tree l.entries)
      (frames_down l.high (seen_tree (g.P.Owned.carried) l.tree l.entries) (l.fn.node.0))) l.fn.finder;
}

abbrev pub decreases-find_in-loop-next : goal.decreases-find_in-loop-next
decreases-find_in-loop-next g l = length (rest_from (option_map number l.next) (children_of l.tree.nodes (l.fn.node.0)))
