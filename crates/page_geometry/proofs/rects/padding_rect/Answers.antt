use Rattle.page_geometry.proofs.Found.{padding_found}
use Rattle.page_geometry.proofs.rects.padding_rect.Goals as goal

pub returns-clause-value : goal.returns-clause-value
returns-clause-value c =
    padding_found c.args.shown.now (c.args.node.0) c.document_of.result.0 c.origin.result c.padding_rect-own.result c.moved_by.result
    c.moved_by.ensures.value c.origin.ensures.value c.document_of.ensures c.padding_rect-own.ensures.value
