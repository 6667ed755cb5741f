use Rattle.std.proofs.Common.{ap, sym, ◌∙◌}
use Rattle.page_model.specs.Documents.{element_depth}
use Rattle.page_tree.proofs.Placing.{depth_page}
use Rattle.page_tree.proofs.page.PageTree.depth.Goals as goal

pub returns : goal.returns
returns c = c.depth.ensures.value
    ∙ sym (depth_page c.self.inside.tree c.self.inside.documents.held c.self.invariant.most_depth c.depth.ensures.forest (c.args.node.0))
    ∙ ap (λ page. element_depth (page.tree) (c.args.node.0)) c.self.view_is
