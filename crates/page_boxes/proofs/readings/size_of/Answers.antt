use Rattle.std.proofs.Common.{◌∙◌}
use Rattle.page_boxes.specs.Pages.{seen_screen}
use Rattle.page_boxes.proofs.Shown.{size_found, size_none}
use Rattle.page_boxes.proofs.readings.size_of.Goals as goal

pub returns-in-Some-clause-value : goal.returns-in-Some-clause-value
returns-in-Some-clause-value c fresh =
    c.size_on.ensures.value
    ∙ size_found c.args.page.now.tree (seen_screen c.args.screen) (c.args.node.0) c.args.kind c.in-Some.own (c.in-Some.ensures (seen_screen c.args.screen) fresh)

pub returns-in-None-clause-value : goal.returns-in-None-clause-value
returns-in-None-clause-value c fresh =
    size_none c.args.page.now.tree (seen_screen c.args.screen) (c.args.node.0) c.args.kind (c.in-None.ensures (seen_screen c.args.screen) fresh)
