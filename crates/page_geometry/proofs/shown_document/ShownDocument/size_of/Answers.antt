use Rattle.std.proofs.Common.{ap, ◌∙◌}
use Rattle.page_model.specs.World.{Screen}
use Rattle.page_model.specs.PageBoxes.{size_by}
use Rattle.block_layout.specs.Seen.{as_size}
use Rattle.page_boxes.proofs.Shown.{size_found, size_none}
use Rattle.page_geometry.proofs.shown_document.ShownDocument.size_of.Goals as goal

pub returns-in-Some-clause-value : goal.returns-in-Some-clause-value
returns-in-Some-clause-value c =
    c.size_on.ensures.value
    ∙ ap (λ (screen : Screen). as_size (size_by screen.ratio c.args.kind c.in-Some.own)) c.screen.ensures.value
    ∙ size_found c.args.self.now.shown.tree c.args.self.now.shown.screen (c.args.node.0) c.args.kind c.in-Some.own c.in-Some.ensures

pub returns-in-None-clause-value : goal.returns-in-None-clause-value
returns-in-None-clause-value c = size_none c.args.self.now.shown.tree c.args.self.now.shown.screen (c.args.node.0) c.args.kind c.in-None.ensures
