use Rattle.std.proofs.Common.{◌++◌, ap, ◌∙◌}
use Rattle.element_tree.specs.Documents.{document_numbers}
use Rattle.page_model.specs.Documents.{first_of_list}
use Rattle.page_documents.specs.Seen.{seen_tree}
use Rattle.page_documents.specs.Paths.{way_down}
use Rattle.page_documents.proofs.Climbing.{path_whole}
use Rattle.page_documents.proofs.documents.Documents.path.Goals as goal

pub returns-clause-path : goal.returns-clause-path
returns-clause-path g c =
    c.climb.ensures.path
    ∙ ap (λ xs. xs ++ way_down c.count.result (seen_tree (g.P.Owned.carried) c.args.tree.now c.args.self.now.held) c.args.document.0) (ap document_numbers c.new-path.ensures.items)
    ∙ ap (λ n. way_down n (seen_tree (g.P.Owned.carried) c.args.tree.now c.args.self.now.held) c.args.document.0) c.count.ensures.value
    ∙ path_whole (seen_tree (g.P.Owned.carried) c.args.tree.now c.args.self.now.held) c.args.document.0

pub returns-clause-top : goal.returns-clause-top
returns-clause-top g c framed active = ap first_of_list (returns-clause-path g c) ∙ framed.leads c.args.document.0 active
