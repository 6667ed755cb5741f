-- A frame is made with its name, and the document in it with its own.
use Rattle.std.proofs.Common.{◌+◌, ◌++◌, ◌∷◌, [], List, length, ap, refl, sym, ◌∙◌}
use Rattle.page_model.specs.World.{DocumentThing, ElementThing, Name, Tree}
use Rattle.page_model.specs.Names.{named_thing}
use Rattle.page_tree.specs.Views.{PageElements}
use Rattle.clip_chain.specs.Worlds.{element_spot}
use Rattle.page_state.proofs.Findings.{roomier_then}
use Rattle.page_names.proofs.Found.{still_free}
use Rattle.page_model.specs.Edits.{with_frame}
use Rattle.page_state.proofs.Inside.{prepared, framed_page}
use Rattle.page_state.proofs.Made.{frame_there, due_made, due_still}
use Rattle.page_state.proofs.page.Page.make_frame.Goals as goal

pub invariant_of-self-in_err-add : goal.invariant_of-self-in_err-add
invariant_of-self-in_err-add c = prepared c.self.inside c.reserve.new.self c.clear.new.self c.self.inside.names c.add.new.self c.clear.ensures c.self.invariant c.reserve.ensures.same refl c.add.ensures.roomier

pub invariant_of-self-in_err-add-2 : goal.invariant_of-self-in_err-add-2
invariant_of-self-in_err-add-2 c =
    prepared c.self.inside c.reserve.new.self c.clear.new.self c.self.inside.names c.add-2.new.self c.clear.ensures c.self.invariant c.reserve.ensures.same refl
    (roomier_then c.add.ensures.roomier c.add-2.ensures.roomier)

pub invariant_of-self-in_err-reserve : goal.invariant_of-self-in_err-reserve
invariant_of-self-in_err-reserve c =
    prepared c.self.inside c.reserve.new.self c.clear.new.self c.reserve-2.new.self c.add-2.new.self c.clear.ensures c.self.invariant c.reserve.ensures.same c.reserve-2.ensures.same
    (roomier_then c.add.ensures.roomier c.add-2.ensures.roomier)

pub insert-requires-2 : goal.insert-requires-2
insert-requires-2 c =
    let last : Name = record { text = c.args.name; thing = ElementThing c.in_ok-node.node.0 } in
    ap (λ (list : List Name). named_thing list c.args.inside) (c.in_ok-insert.ensures.given ∙ ap (λ (list : List Name). list ++ last ∷ []) c.in_ok-reserve.ensures.same)
    ∙ still_free c.self.inside.names.list c.args.inside last c.in_ok-check_also_free.ensures.free c.in_ok-check_also_free.ensures.other

pub invariant_of-self-2 : goal.invariant_of-self-2
invariant_of-self-2 c =
    let p = c.self.inside in
    let before = c.in_ok-node.ensures.same in
    framed_page p c.self.invariant c.make_frame.new.self c.clear.new.self c.clear.ensures c.insert-2.new.self c.add-2.new.self (roomier_then c.add.ensures.roomier c.add-2.ensures.roomier) c.args.name
    (ap (λ (it : PageElements). it.version) c.in_ok-_made.ensures.made ∙ ap (λ (it : PageElements). it.version) before)
    (ap (λ (it : PageElements). it.names) c.in_ok-_made.ensures.made ∙ ap (λ (it : PageElements). it.names ++ c.args.name ∷ []) before)
    (c.in_ok-_made.ensures.count ∙ ap (λ (it : PageElements). length it.tree.elements + 1) before)
    c.in_ok-node.node.0 c.document_count.result c.args.inside c.in_ok-node.ensures.node
    (c.document_count.ensures.value ∙ ap (λ (it : Tree). length it.documents) c.page.ensures.tree ∙ ap (λ (it : PageElements). length it.tree.documents) before)
    (c.in_ok-insert-2.ensures.given
    ∙ ap (λ (list : List Name). list ++ record { text = c.args.inside; thing = DocumentThing c.document_count.result } ∷ [])
    (c.in_ok-insert.ensures.given ∙ ap (λ (list : List Name). list ++ record { text = c.args.name; thing = ElementThing c.in_ok-node.node.0 } ∷ []) c.in_ok-reserve.ensures.same))
    (c.in_ok-_made.ensures.documents ∙ ap (λ (it : PageElements). length it.tree.documents + 1) before)
    (c.add-2.ensures.roomier.room (element_spot c.in_ok-node.node.0) c.in_ok-add.ensures.room)
    c.in_ok-add-2.ensures.room

pub returns-in_err-node-clause-boxes : goal.returns-in_err-node-clause-boxes
returns-in_err-node-clause-boxes c =
    due_still c.self.inside c.args.self.now c.self.view_is c.making_leaves_boxes.ensures.leaves c.reserve.new.self c.reserve.ensures.marks
    (ap (λ (it : PageElements). it.tree) c.reserve.ensures.same)

pub returns-in_err-add-clause-boxes : goal.returns-in_err-add-clause-boxes
returns-in_err-add-clause-boxes c =
    due_still c.self.inside c.args.self.now c.self.view_is c.making_leaves_boxes.ensures.leaves c.reserve.new.self c.reserve.ensures.marks
    (ap (λ (it : PageElements). it.tree) c.reserve.ensures.same)

pub returns-in_err-add-2-clause-boxes : goal.returns-in_err-add-2-clause-boxes
returns-in_err-add-2-clause-boxes c =
    due_still c.self.inside c.args.self.now c.self.view_is c.making_leaves_boxes.ensures.leaves c.reserve.new.self c.reserve.ensures.marks
    (ap (λ (it : PageElements). it.tree) c.reserve.ensures.same)

pub returns-in_err-reserve-clause-boxes : goal.returns-in_err-reserve-clause-boxes
returns-in_err-reserve-clause-boxes c =
    due_still c.self.inside c.args.self.now c.self.view_is c.making_leaves_boxes.ensures.leaves c.reserve.new.self c.reserve.ensures.marks
    (ap (λ (it : PageElements). it.tree) c.reserve.ensures.same)

pub returns-clause-boxes : goal.returns-clause-boxes
returns-clause-boxes c =
    let document = c.in_ok-document.document.0 in
    due_made c.self.inside c.args.self.now c.self.view_is c.making_leaves_boxes.ensures.leaves c.make_frame.new.self (λ n. c.in_ok-_made.ensures.marks n ∙ c.in_ok-node.ensures.marks n)
    (with_frame document) (c.making_leaves_boxes.ensures.frames document)
    (ap (λ (it : PageElements). it.tree) c.in_ok-_made.ensures.made ∙ ap (λ (it : PageElements). with_frame document (it.tree)) c.in_ok-node.ensures.same)

pub invariant_of-self-in_err-_made : goal.invariant_of-self-in_err-_made
invariant_of-self-in_err-_made c =
    absurd (frame_there c.page-page.result.now c.reserve.new.self.elements c.is_full.result c.is_full.ensures c.if-is_full.false
    c.is_full_of_documents.result c.is_full_of_documents.ensures c.if-is_full_of_documents.false
    (c.in_ok-node.ensures.same ∙ ap (λ (it : PageElements). record it { ready = c.reserve.new.self.elements.ready }) (sym c.page-page.ensures.value)) c.in_ok-node.ensures.ready
    c.in_err-_made.field-0.0 c.in_err-_made.ensures.refused)

pub returns-in_err-_made-clause-boxes : goal.returns-in_err-_made-clause-boxes
returns-in_err-_made-clause-boxes c =
    absurd (frame_there c.page-page.result.now c.reserve.new.self.elements c.is_full.result c.is_full.ensures c.if-is_full.false
    c.is_full_of_documents.result c.is_full_of_documents.ensures c.if-is_full_of_documents.false
    (c.in_ok-node.ensures.same ∙ ap (λ (it : PageElements). record it { ready = c.reserve.new.self.elements.ready }) (sym c.page-page.ensures.value)) c.in_ok-node.ensures.ready
    c.in_err-_made.field-0.0 c.in_err-_made.ensures.refused)
