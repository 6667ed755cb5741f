use Rattle.std.proofs.Common.{subst}
use Rattle.page_model.specs.PageBoxes.{view_of}
use Rattle.kept_layout.specs.Measures.{IsSized}
use Rattle.page_boxes.proofs.Sized.{sized_view}
use Rattle.page_geometry.specs.Documents.{ShownIn}
use Rattle.page_geometry.proofs.shown_document.ShownDocument.boxes.Goals as goal

pub returns-clause-sized : goal.returns-clause-sized
returns-clause-sized c =
    let at = c.self.inside in
    subst (λ (s : ShownIn). IsSized (view_of s.shown.tree s.shown.screen s.document)) c.self.view_is (sized_view at.page.now.tree at.screen c.self.invariant.0 at.document.0)
