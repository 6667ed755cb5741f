use Rattle.page_geometry.proofs.Found.{viewport_found, length_fits}
use Rattle.page_geometry.proofs.rects.viewport_rect.Goals as goal

pub returns-clause-value : goal.returns-clause-value
returns-clause-value c =
    viewport_found c.args.shown.now c.args.document.0 c.origin.result c.viewport_of-size.result _ _ c.moved_by.result
    c.moved_by.ensures.value c.origin.ensures.value
    (length_fits c.viewport_of-size.result.width c.viewport_of-size.ensures.range.0) (length_fits c.viewport_of-size.result.height c.viewport_of-size.ensures.range.1)
    c.viewport_of-size.ensures.value
