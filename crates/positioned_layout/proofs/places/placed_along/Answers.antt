use Rattle.std.proofs.Common.{ℤ, Some, ap, sym, ◌∙◌}
use Rattle.std.specs.Prelude.{pos, ◌+ℤ◌}
use Rattle.layout_model.specs.Points.{moved}
use Rattle.layout_model.specs.FlatPlaces.{offset_of, above_of, flat_place}
use Rattle.positioned_layout.specs.Along.{part, moved_from}
use Rattle.positioned_layout.proofs.Nodes.{carried_style, shallow}
use Rattle.positioned_layout.proofs.Numbers.{held_again, flow_whole}
use Rattle.positioned_layout.proofs.Placing.{flat_moved, flow_part}
use Rattle.positioned_layout.proofs.places.placed_along.Goals as goal

pub returns-in-FromHolder-clause-value : goal.returns-in-FromHolder-clause-value
returns-in-FromHolder-clause-value g c at view p are up own_is outer_is flow_is held_is =
    let n = c.args.node.0 in
    let styled = carried_style g.P.Placed.placed c.args.tree.now.nodes at are n c.payload.result.now c.payload.ensures.value ∙ sym c.style.ensures.value in
    let flow : ℤ = part c.args.axis (moved (above_of (flat_place at view) (at n).parent) (offset_of at view n)) in
    held_again c.args.held c.in-FromHolder.by c.requires.held c.in-FromHolder.ensures.range
    ∙ sym
    (flat_moved at (shallow g.P.Placed.placed c.args.tree.now.nodes at are c.payload.ensures.forest) view c.args.axis n _ (c.position.ensures.value at are) _ (c.side-side.ensures.value at view n styled own_is)
    c.moved.result c.moved.ensures.value c.args.held held_is
    ∙ ap (λ m. moved_from m c.args.held flow) c.in-FromHolder.is)

pub returns-in-FromFlow-clause-value : goal.returns-in-FromFlow-clause-value
returns-in-FromFlow-clause-value g c at view p are up own_is outer_is flow_is held_is =
    let n = c.args.node.0 in
    let styled = carried_style g.P.Placed.placed c.args.tree.now.nodes at are n c.payload.result.now c.payload.ensures.value ∙ sym c.style.ensures.value in
    let flow : ℤ = part c.args.axis (moved (above_of (flat_place at view) (at n).parent) (offset_of at view n)) in
    flow_whole c.args.flow c.offset.result c.in-FromFlow.by c.requires.flow c.offset.ensures.range c.in-FromFlow.ensures.range
    ∙ ap (λ x. c.args.flow +ℤ x +ℤ c.in-FromFlow.by) (c.offset.ensures.value at view n p up outer_is own_is)
    ∙ ap (λ x. x +ℤ pos (part c.args.axis (offset_of at view n)) +ℤ c.in-FromFlow.by) flow_is
    ∙ ap (λ x. x +ℤ c.in-FromFlow.by) (sym (flow_part at view c.args.axis n (Some p) up))
    ∙ sym
    (flat_moved at (shallow g.P.Placed.placed c.args.tree.now.nodes at are c.payload.ensures.forest) view c.args.axis n _ (c.position.ensures.value at are) _ (c.side-side.ensures.value at view n styled own_is)
    c.moved.result c.moved.ensures.value c.args.held held_is
    ∙ ap (λ m. moved_from m c.args.held flow) c.in-FromFlow.is)
