use Rattle.std.proofs.Common.{sym, ◌∙◌, ap, option_map}
use Rattle.element_tree.specs.Documents.{document_number}
use Rattle.page_model.specs.Documents.{is_active_there}
use Rattle.page_documents.specs.Seen.{seen_tree}
use Rattle.page_documents.proofs.Roots.{active_there}
use Rattle.page_documents.proofs.adoption.stands_in_active.Goals as goal

pub returns-in-Some-clause-value : goal.returns-in-Some-clause-value
returns-in-Some-clause-value g c =
    c.is_in.ensures.value
    ∙ ap (is_active_there (seen_tree (g.P.Owned.carried) c.args.tree.now c.args.entries.now)) (sym (ap (option_map document_number) c.in-Some.is))
    ∙ active_there (seen_tree (g.P.Owned.carried) c.args.tree.now c.args.entries.now) (c.args.node.0) (option_map document_number c.tree_document.result) c.tree_document.ensures.value

pub returns-in-None-clause-value : goal.returns-in-None-clause-value
returns-in-None-clause-value g c =
    ap (is_active_there (seen_tree (g.P.Owned.carried) c.args.tree.now c.args.entries.now)) (sym (ap (option_map document_number) c.in-None.is))
    ∙ active_there (seen_tree (g.P.Owned.carried) c.args.tree.now c.args.entries.now) (c.args.node.0) (option_map document_number c.tree_document.result) c.tree_document.ensures.value
