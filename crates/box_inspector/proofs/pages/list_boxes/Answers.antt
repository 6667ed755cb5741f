use Rattle.std.proofs.Common.{arith}
use Rattle.box_inspector.proofs.Told.{whole_list}
use Rattle.box_inspector.proofs.pages.list_boxes.Goals as goal

pub returns-clause-list : goal.returns-clause-list
returns-clause-list c =
    whole_list c.args.page.now.world c.deref-document-items.result.now c.in_ok-documents.documents.items c.loop-document.document-index
    c.loop-document.lines.items (omega arith) c.deref-document-items.ensures.value c.in_ok-documents.ensures c.loop-document.invariant.listed
