use Rattle.std.proofs.Common.{ap, sym, ◌∙◌}
use Rattle.page_model.specs.Documents.{nodes_of}
use Rattle.page_tree.proofs.Lookups.{tree_found}
use Rattle.page_tree.proofs.page.PageTree.tree.Goals as goal

pub returns-clause-nodes : goal.returns-clause-nodes
returns-clause-nodes c = ap (λ page. nodes_of (page.tree)) (sym c.self.view_is)
    ∙ tree_found c.self.inside.tree c.self.inside.documents.held
