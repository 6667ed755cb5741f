use Rattle.std.proofs.Common.{ap, sym, subst, ◌∙◌, arith}
use Rattle.std.specs.Prelude.{is_some}
use Rattle.layout_model.specs.Views.{inputs_in_view}
use Rattle.layout_model.specs.Reach.{offset_in_force}
use Rattle.page_model.specs.PageBoxes.{view_at, stored_in}
use Rattle.block_layout.specs.Seen.{as_point}
use Rattle.page_boxes.specs.Fresh.{HoldsAll}
use Rattle.page_boxes.proofs.Pages.{boxed_is, made_if_boxed}
use Rattle.page_boxes.proofs.InForce.{element_offset, element_offsetless}
use Rattle.page_geometry.proofs.Boxes.{sized_at, fresh_at}
use Rattle.page_geometry.proofs.shown_document.ShownDocument.element_offset.Goals as goal

pub boxed_offset-requires : goal.boxed_offset-requires
boxed_offset-requires c =
    let it = c.args.self.now.shown in
    let made = made_if_boxed it.tree it.screen (c.args.node.0) (sym c.has_box.ensures ∙ c.if-has_box.true) in omega (arith, made, c.elements.ensures.count)

pub returns-then-has_box-clause-value : goal.returns-then-has_box-clause-value
returns-then-has_box-clause-value c =
    let it = c.args.self.now.shown in
    let n = c.args.node.0 in
    let view = view_at it.tree it.screen n in
    let nodes = c.elements.ensures.nodes in
    let there = sym c.has_box.ensures ∙ c.if-has_box.true in
    let boxed = sym (ap (λ at. is_some (inputs_in_view at view n)) nodes) ∙ sym (boxed_is it.tree it.screen n) ∙ there in
    c.boxed_offset.ensures.value view (sized_at it c.args.self.now.document n c.requires c.boxes.ensures.sized) (subst (λ at. HoldsAll at view c.boxes.result.now) nodes (fresh_at it c.args.self.now.document n c.requires c.boxes.result.now c.boxes.ensures.fresh)) boxed
    ∙ (λ i. as_point (offset_in_force (sym nodes i) (stored_in (c.scrolls.ensures i)) view n))
    ∙ ap as_point (element_offset it.tree it.screen it.scrolls n there)

pub returns-else-has_box-clause-value : goal.returns-else-has_box-clause-value
returns-else-has_box-clause-value c =
    let it = c.args.self.now.shown in element_offsetless it.tree it.screen it.scrolls (c.args.node.0) (sym c.has_box.ensures ∙ c.if-has_box.false)
