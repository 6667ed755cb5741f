use Rattle.std.proofs.Common.{◌≡◌, ℤ, cond, refl, sym, ◌∙◌}
use Rattle.std.specs.Prelude.{◌+ℤ◌}
use Rattle.layout_model.specs.Nodes.{holder}
use Rattle.layout_model.specs.Points.{moved}
use Rattle.layout_model.specs.FlatPlaces.{offset_of, corner_of, above_of, flat_place}
use Rattle.positioned_layout.specs.declared.insets.Moved.{Moved}
use Rattle.positioned_layout.specs.declared.insets.Moved.TheVariants.{FromHolder, FromFlow}
use Rattle.positioned_layout.specs.Along.{part, is_held, moved_by, moved_from}
use Rattle.positioned_layout.proofs.Nodes.{carried_style, shallow}
use Rattle.positioned_layout.proofs.Placing.{flat_moved}
use Rattle.positioned_layout.proofs.places.moved_along.Goals as goal

by_way : (m : Moved) (corner flow : ℤ) → moved_from m corner flow ≡ cond (is_held m) corner flow +ℤ moved_by m
by_way (FromHolder by) corner flow = refl
by_way (FromFlow by) corner flow = refl

pub returns-clause-value : goal.returns-clause-value
returns-clause-value g c at view are own_is =
    let n = c.args.node.0 in
    let styled = carried_style g.P.Placed.placed c.args.tree.now.nodes at are n c.payload.result.now c.payload.ensures.value ∙ sym c.style.ensures.value in
    let corner : ℤ = part c.args.axis (corner_of at (flat_place at view) (holder at n)) in
    let flow : ℤ = part c.args.axis (moved (above_of (flat_place at view) (at n).parent) (offset_of at view n)) in
    flat_moved at (shallow g.P.Placed.placed c.args.tree.now.nodes at are c.payload.ensures.forest) view c.args.axis n _ (c.position.ensures.value at are) _ (c.side.ensures.value at view n styled own_is)
    c.moved.result c.moved.ensures.value corner (λ out. refl)
    ∙ by_way c.moved.result corner flow
