use Rattle.std.proofs.Common.{ap, sym, subst, ◌∙◌, arith, cond}
use Rattle.std.specs.Prelude.{is_some}
use Rattle.layout_model.specs.Clips.{is_scroll_container}
use Rattle.layout_model.specs.Views.{inputs_in_view}
use Rattle.layout_model.specs.Reach.{range_of}
use Rattle.page_model.specs.PageBoxes.{view_at}
use Rattle.block_layout.specs.Seen.{as_size}
use Rattle.page_boxes.specs.Fresh.{HoldsAll}
use Rattle.page_boxes.proofs.Pages.{boxed_is, made_if_boxed}
use Rattle.page_boxes.proofs.Reaching.{element_range, element_rangeless}
use Rattle.page_geometry.proofs.Boxes.{sized_at, fresh_at}
use Rattle.page_geometry.proofs.shown_document.ShownDocument.element_range.Goals as goal

pub boxed_range-requires : goal.boxed_range-requires
boxed_range-requires c =
    let it = c.args.self.now.shown in
    let made = made_if_boxed it.tree it.screen (c.args.node.0) (sym c.has_box.ensures ∙ c.if-has_box.true) in omega (arith, made, c.elements.ensures.count)

pub returns-then-has_box-clause-value : goal.returns-then-has_box-clause-value
returns-then-has_box-clause-value c =
    let it = c.args.self.now.shown in
    let n = c.args.node.0 in
    let view = view_at it.tree it.screen n in
    let nodes = c.elements.ensures.nodes in
    let there = sym c.has_box.ensures ∙ c.if-has_box.true in
    let boxed = sym (ap (λ at. is_some (inputs_in_view at view n)) nodes) ∙ sym (boxed_is it.tree it.screen n) ∙ there in
    c.boxed_range.ensures.value view (sized_at it c.args.self.now.document n c.requires c.boxes.ensures.sized) (subst (λ at. HoldsAll at view c.boxes.result.now) nodes (fresh_at it c.args.self.now.document n c.requires c.boxes.result.now c.boxes.ensures.fresh)) boxed
    ∙ ap (λ at. as_size (cond (is_scroll_container (at n)) (range_of at view n) (0, 0))) (sym nodes)
    ∙ ap as_size (element_range it.tree it.screen n there)

pub returns-else-has_box-clause-value : goal.returns-else-has_box-clause-value
returns-else-has_box-clause-value c =
    ap as_size (element_rangeless c.args.self.now.shown.tree c.args.self.now.shown.screen (c.args.node.0) (sym c.has_box.ensures ∙ c.if-has_box.false))
