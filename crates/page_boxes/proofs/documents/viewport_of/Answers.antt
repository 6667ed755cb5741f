use Rattle.page_boxes.specs.Pages.{seen_screen}
use Rattle.page_boxes.proofs.documents.viewport_of.Goals as goal

pub returns-clause-value : goal.returns-clause-value
returns-clause-value c fresh = c.viewport_below.ensures.value (c.root_above.ensures (seen_screen c.args.screen)) fresh
