use Rattle.page_geometry.proofs.Found.{border_found}
use Rattle.page_geometry.proofs.rects.border_rect.Goals as goal

pub returns-clause-value : goal.returns-clause-value
returns-clause-value c =
    border_found c.args.shown.now (c.args.node.0) c.document_of.result.0 c.origin.result c.border_rect-own.result c.moved_by.result
    c.moved_by.ensures.value c.origin.ensures.value c.document_of.ensures c.border_rect-own.ensures.value
