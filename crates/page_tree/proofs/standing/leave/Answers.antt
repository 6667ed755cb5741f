use Rattle.std.proofs.Common.{◌<◌, ◌∙◌, ap, sym, subst, length, Some}
use Rattle.container_model.specs.Seen.{seen_container}
use Rattle.page_tree.specs.Steps.{IsBelow}
use Rattle.page_tree.proofs.Places.{left_nowhere, left_parent, left_document, ended_count}
use Rattle.page_tree.proofs.standing.leave.Goals as goal

pub returns-in_default : goal.returns-in_default
returns-in_default c =
    left_nowhere c.args.tree.now c.args.documents.now c.end_inside.new.documents (c.args.node.0) c.end_inside.ensures (sym c.in_default.ensures.value)

pub set_root-requires : goal.set_root-requires
set_root-requires c =
    subst (λ count. c.in-Document.document.0 < count)
    (sym (ended_count c.args.tree.now c.args.documents.now c.end_inside.new.documents (c.args.node.0) c.end_inside.ensures))
    (subst (IsBelow (length c.args.documents.now.held)) c.in-Document.is c.in-Some.ensures.held)

pub returns-in-Element : goal.returns-in-Element
returns-in-Element c =
    left_parent c.args.tree.now c.args.documents.now c.end_inside.new.documents (c.args.node.0) c.end_inside.ensures (c.in-Element.field-0.0)
    (sym c.in-Some.ensures.value ∙ ap (λ it. Some (seen_container it)) c.in-Element.is)

pub returns-in-Document : goal.returns-in-Document
returns-in-Document c =
    left_document c.args.tree.now c.args.documents.now c.end_inside.new.documents (c.args.node.0) c.end_inside.ensures c.in-Document.document.0
    (sym c.in-Some.ensures.value ∙ ap (λ it. Some (seen_container it)) c.in-Document.is) c.set_root.new.self c.set_root.ensures
