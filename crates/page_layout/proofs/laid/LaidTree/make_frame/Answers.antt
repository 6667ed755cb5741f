use Rattle.std.proofs.Common.{not, ap, sym, ◌∙◌, rules}
use Rattle.page_model.specs.Edits.{with_frame}
use Rattle.page_tree.specs.Faults.{frame_room, has_document_room}
use Rattle.page_tree.proofs.Making.{frame_met_nodes, frame_met_documents}
use Rattle.page_layout.specs.Views.{LaidElements}
use Rattle.page_layout.proofs.Making.{alone_frame, frame_faults, kept_made, room_is}
use Rattle.page_layout.proofs.laid.LaidTree.make_frame.Goals as goal

pub returns-then-is_full-clause-refused : goal.returns-then-is_full-clause-refused
returns-then-is_full-clause-refused c =
    ap (λ (laid : LaidElements). frame_room laid.elements) (sym c.self.view_is)
    ∙ frame_met_nodes c.self.inside.page c.is_full.result c.is_full.ensures c.if-is_full.true

pub returns-then-is_full_of_documents-clause-refused : goal.returns-then-is_full_of_documents-clause-refused
returns-then-is_full_of_documents-clause-refused c =
    ap (λ (laid : LaidElements). frame_room laid.elements) (sym c.self.view_is)
    ∙ frame_met_documents c.self.inside.page c.is_full.result c.is_full.ensures c.if-is_full.false
    c.is_full_of_documents.result c.is_full_of_documents.ensures c.if-is_full_of_documents.true

pub returns-in_err-_node-clause-refused : goal.returns-in_err-_node-clause-refused
returns-in_err-_node-clause-refused c =
    frame_faults c.args.self.now.elements c.is_full_of_documents.result
    (c.is_full_of_documents.ensures ∙ ap (λ (laid : LaidElements). not (has_document_room laid.elements)) c.self.view_is) c.if-is_full_of_documents.false c.from_residual.result (search rules)

pub invariant_of-self : goal.invariant_of-self
invariant_of-self c = record {
  kept =
      kept_made c.self-2.inside.page c.make_frame.new.self c.self-2.inside.boxes c.self-2.invariant.kept
      (with_frame c.args.document.0 (c.self-2.inside.page.tree)) _
      (room_is c.self-2.inside.page c.self-2.inside.boxes (ap (λ (laid : LaidElements). laid.elements.ready) c.self-2.view_is ∙ c.in_ok-_node.ensures.ready))
      (alone_frame c.args.document.0 (c.self-2.inside.page.tree))
      c.make_frame.result c.make_frame.ensures.made c.make_frame.ensures.count c.make_frame.ensures.changes c.make_frame.ensures.same;
  current = tt;
}
