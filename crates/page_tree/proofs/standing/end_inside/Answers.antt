use Rattle.std.proofs.Common.{ap, sym, ◌∙◌, option_map}
use Rattle.element_tree.specs.Documents.{document_number}
use Rattle.page_model.specs.Documents.{is_active_there}
use Rattle.page_documents.specs.Seen.{seen_tree}
use Rattle.page_documents.specs.Held.{ending}
use Rattle.page_documents.proofs.Roots.{active_there}
use Rattle.page_tree.specs.Items.{carried_in}
use Rattle.page_tree.proofs.standing.end_inside.Goals as goal

pub returns-in-Some : goal.returns-in-Some
returns-in-Some c =
    let before = seen_tree carried_in c.args.tree.now c.args.documents.now.held in
    c.left.ensures.ended
    ∙ ap (λ active. ending active before (c.args.node.0) c.args.documents.now)
    (ap (is_active_there before) (sym (ap (option_map document_number) c.in-Some.is)) ∙ active_there before (c.args.node.0) (option_map document_number c.tree_document.result) c.tree_document.ensures)

pub returns-in_default : goal.returns-in_default
returns-in_default c =
    let before = seen_tree carried_in c.args.tree.now c.args.documents.now.held in
    ap (λ active. ending active before (c.args.node.0) c.args.documents.now)
    (ap (is_active_there before) (sym (ap (option_map document_number) c.in_default.is)) ∙ active_there before (c.args.node.0) (option_map document_number c.tree_document.result) c.tree_document.ensures)
