use Rattle.std.proofs.Common.{◌∙◌}
use Rattle.page_tree.proofs.Making.{opening_page}
use Rattle.page_tree.proofs.page.PageTree.new.Goals as goal

pub invariant_of-result : goal.invariant_of-result
invariant_of-result c =
    opening_page c.args.version c.new-2.result c.in_ok-documents.documents c.new-2.ensures.empty (c.new-2.ensures.most_nodes ∙ c.most_nodes.ensures.value) c.new-2.ensures.most_depth c.in_ok-documents.ensures
