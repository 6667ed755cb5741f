use Rattle.std.proofs.Common.{ap, sym, ◌∙◌}
use Rattle.std.specs.Prelude.{is_some}
use Rattle.layout_model.specs.Views.{inputs_in_view}
use Rattle.page_model.specs.PageBoxes.{view_at}
use Rattle.page_boxes.proofs.Pages.{absent_no_box, boxed_is}
use Rattle.page_boxes.proofs.documents.has_box_below.Goals as goal

pub returns-then-not-holds : goal.returns-then-not-holds
returns-then-not-holds c screen below =
    sym (absent_no_box c.args.page.now.tree screen (c.args.node.0) (sym c.holds.ensures.value ∙ c.if-not-holds.true))

pub returns : goal.returns
returns c screen below =
    let tree = c.args.page.now.tree in
    let n = c.args.node.0 in
    c.is_boxed.ensures (view_at tree screen n) (sym below)
    ∙ ap (λ at. is_some (inputs_in_view at (view_at tree screen n) n)) (sym c.tree.ensures.nodes)
    ∙ sym (boxed_is tree screen n)
