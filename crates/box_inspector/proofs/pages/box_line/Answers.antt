use Rattle.std.proofs.Common.{ap, ◌∙◌}
use Rattle.page_model.specs.World.{Tree}
use Rattle.page_model.specs.Documents.{element_depth}
use Rattle.box_inspector.proofs.Told.{there, line_is}
use Rattle.box_inspector.proofs.pages.box_line.Goals as goal

pub label-requires : goal.label-requires
label-requires c = there c.args.page.now.world c.args.shown.now c.requires.shown (c.args.node.0) c.requires.boxed

pub returns-clause-value : goal.returns-clause-value
returns-clause-value c =
    line_is c.args.page.now.world c.args.shown.now c.requires.shown (c.args.node.0) c.label.result c.depth.result c.place.result c.in_ok-seen.seen
    c.label.ensures (c.depth.ensures ∙ ap (λ (tree : Tree). element_depth tree (c.args.node.0)) c.page.ensures) c.place.ensures.value c.in_ok-seen.ensures.value
