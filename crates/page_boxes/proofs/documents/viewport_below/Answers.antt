use Rattle.std.proofs.Common.{ap, ◌∙◌}
use Rattle.block_layout.specs.Seen.{as_size}
use Rattle.page_boxes.specs.Pages.{seen_screen}
use Rattle.page_boxes.proofs.Pages.{viewport_found, size_natural}
use Rattle.page_boxes.proofs.documents.viewport_below.Goals as goal

pub returns-in-Some-clause-value : goal.returns-in-Some-clause-value
returns-in-Some-clause-value c above fresh =
    size_natural c.in-Some.size (c.in-Some.ensures.range c.requires.size)
    ∙ ap as_size (viewport_found c.args.page.now.tree (seen_screen c.args.screen) c.args.document.0 _ (c.in-Some.ensures.value above fresh))

pub returns-in-None-clause-value : goal.returns-in-None-clause-value
returns-in-None-clause-value c above fresh =
    ap as_size (viewport_found c.args.page.now.tree (seen_screen c.args.screen) c.args.document.0 _ (c.in-None.ensures.value above fresh))
