use Rattle.std.proofs.Common.{subst, ap, ◌∙◌}
use Rattle.page_model.specs.Lookups.{document_at}
use Rattle.page_documents.specs.Frames.{AreFramed}
use Rattle.page_tree.specs.Views.{PageElements}
use Rattle.page_tree.proofs.Lookups.{root_known}
use Rattle.page_tree.proofs.page.PageTree.root.Goals as goal

pub returns-clause-held : goal.returns-clause-held
returns-clause-held c =
    let framed = subst (λ (page : PageElements). AreFramed page.tree) c.self.view_is c.self.invariant.framed in
    root_known c.args.self.now.tree framed c.args.document.0 c.root_of.result
    (c.root_of.ensures ∙ ap (λ (page : PageElements). (document_at (page.tree) c.args.document.0).root) c.self.view_is)
