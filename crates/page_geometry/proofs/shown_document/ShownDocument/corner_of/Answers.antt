use Rattle.std.proofs.Common.{◌∙◌}
use Rattle.page_boxes.proofs.Shown.{corner_found, corner_none}
use Rattle.page_geometry.proofs.shown_document.ShownDocument.corner_of.Goals as goal

pub returns-in-Some-clause-value : goal.returns-in-Some-clause-value
returns-in-Some-clause-value c =
    c.content_corner.ensures.value ∙ corner_found c.args.self.now.shown.tree c.args.self.now.shown.screen (c.args.node.0) c.in-Some.own c.in-Some.ensures

pub returns-in-None-clause-value : goal.returns-in-None-clause-value
returns-in-None-clause-value c = corner_none c.args.self.now.shown.tree c.args.self.now.shown.screen (c.args.node.0) c.in-None.ensures
