use Rattle.std.proofs.Common.{◌≡◌, ◌<◌, [], length}
use Rattle.element_tree.specs.Forest.{depth}
use Rattle.page_model.specs.Documents.{root_of}
use Rattle.page_documents.specs.Seen.{seen_tree}
use Rattle.page_documents.proofs.adoption.top_of.Given as goal

abbrev pub invariant-loop-parent : goal.invariant-loop-parent
invariant-loop-parent g l = record {
  known : l.at.0 < length l.tree.nodes;
  same : root_of (seen_tree (g.P.Owned.carried) l.tree []) (l.at.0) ≡ root_of (seen_tree (g.P.Owned.carried) l.tree []) (l.fn.node.0);
}

abbrev pub decreases-loop-parent : goal.decreases-loop-parent
decreases-loop-parent g l = depth l.tree.nodes (l.at.0)
