use Rattle.std.proofs.Common.{sym, ◌∙◌}
use Rattle.page_boxes.proofs.Pages.{no_box, own_held}
use Rattle.page_boxes.proofs.documents.box_below.Goals as goal

pub returns-then-has_box_below : goal.returns-then-has_box_below
returns-then-has_box_below c screen below fresh =
    c.box_of.ensures
    ∙ own_held c.args.page.now.tree screen (c.args.node.0) c.args.boxes.now fresh (sym (c.has_box_below.ensures screen below) ∙ c.if-has_box_below.true)

pub returns-else-has_box_below : goal.returns-else-has_box_below
returns-else-has_box_below c screen below fresh =
    sym (no_box c.args.page.now.tree screen (c.args.node.0) (sym (c.has_box_below.ensures screen below) ∙ c.if-has_box_below.false))
