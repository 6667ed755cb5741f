use Rattle.page_model.specs.Shown.{shown_with}
use Rattle.page_boxes.specs.Pages.{seen_screen}
use Rattle.page_geometry.proofs.Scrollers.{lent}
use Rattle.page_geometry.proofs.shown.Shown.in_document.Goals as goal

pub with_view-requires-clause-offsets : goal.with_view-requires-clause-offsets
with_view-requires-clause-offsets c =
    let at = c.self.inside in
    lent (shown_with at.page.now.tree (seen_screen at.screen) at.scrolls.now) c.args.document.0 c.as_ref.result at.offsets c.as_ref.ensures.value c.self.invariant.3
