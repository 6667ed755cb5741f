use Rattle.std.proofs.Common.{ap, sym, ◌∙◌, arith}
use Rattle.layout_model.specs.Clips.{is_scroll_container}
use Rattle.page_boxes.proofs.Pages.{no_screen, made_if_boxed, count_here}
use Rattle.page_boxes.proofs.Reaching.{scroller_is, no_scroller}
use Rattle.page_boxes.proofs.ranges.is_scroller.Goals as goal

pub is_scroll_container-requires : goal.is_scroll_container-requires
is_scroll_container-requires c =
    let made = made_if_boxed c.args.page.now.tree no_screen (c.args.node.0) (sym (c.has_box.ensures no_screen) ∙ c.if-has_box.true) in
    omega (arith, made, count_here c.args.page.now c.tree.result.now c.tree.ensures.value)

pub returns-then-has_box : goal.returns-then-has_box
returns-then-has_box c screen =
    c.is_scroll_container.ensures.value
    ∙ ap (λ at. is_scroll_container (at (c.args.node.0))) (sym c.tree.ensures.nodes)
    ∙ sym (scroller_is c.args.page.now.tree screen (c.args.node.0) (sym (c.has_box.ensures screen) ∙ c.if-has_box.true))

pub returns-else-has_box : goal.returns-else-has_box
returns-else-has_box c screen =
    c.if-has_box.false ∙ sym (no_scroller c.args.page.now.tree screen (c.args.node.0) (sym (c.has_box.ensures screen) ∙ c.if-has_box.false))
