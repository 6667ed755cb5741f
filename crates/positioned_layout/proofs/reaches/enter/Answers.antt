use Rattle.std.proofs.Common.{◌≡◌, ◌-◌, ◌+◌, ap, sym, subst, ◌∙◌, arith}
use Rattle.std.specs.Prelude.{◌&&◌, not}
use Rattle.layout_model.specs.Clips.{clips}
use Rattle.layout_model.proofs.Ancestors.{in_self}
use Rattle.element_tree.specs.Forest.{depth}
use Rattle.element_tree.proofs.Depths.{depth_positive}
use Rattle.element_tree.proofs.Levels.{low_enough}
use Rattle.positioned_layout.specs.Measured.{Measured}
use Rattle.positioned_layout.specs.Walked.{IsNearAround}
use Rattle.positioned_layout.proofs.Nodes.{shallow}
use Rattle.positioned_layout.proofs.Numbers.{near_more, corner_more}
use Rattle.positioned_layout.proofs.Walking.{far_one}
use Rattle.positioned_layout.proofs.reaches.enter.Goals as goal
use Rattle.positioned_layout.proofs.reaches.enter.Goals.{then-held, else-held}

pub placed-place-requires-clause-flow : goal.placed-place-requires-clause-flow
placed-place-requires-clause-flow g c =
    let short = low_enough c.position-position.ensures.forest (c.args.child.0) in
    let near = c.requires.around.place in (
      near_more (depth c.args.tree.now.nodes (c.args.child.0) - 1) 65536 c.args.around.place.left (omega (arith, short)) near.0,
      near_more (depth c.args.tree.now.nodes (c.args.child.0) - 1) 65536 c.args.around.place.top (omega (arith, short)) near.1,
    )

pub placed-place-requires-clause-held : goal.placed-place-requires-clause-held
placed-place-requires-clause-held g c =
    let short = low_enough c.position-position.ensures.forest (c.args.child.0) in
    let near = c.holding-held.ensures.range (depth c.args.tree.now.nodes (c.args.child.0) - 1) c.requires.around in (
      corner_more (depth c.args.tree.now.nodes (c.args.child.0) - 1) 65536 c.holding-held.result.corner.left (omega (arith, short)) near.0,
      corner_more (depth c.args.tree.now.nodes (c.args.child.0) - 1) 65536 c.holding-held.result.corner.top (omega (arith, short)) near.1,
    )

pub inside-requires-clause-place : goal.inside-requires-clause-place
inside-requires-clause-place g c =
    let short = low_enough c.position-position.ensures.forest (c.args.child.0) in
    let least = depth_positive c.args.tree.now.nodes (c.args.child.0) in
    let held = c.holding-held.ensures.range (depth c.args.tree.now.nodes (c.args.child.0) - 1) c.requires.around in
    let near = c.placed-place.ensures.range (depth c.args.tree.now.nodes (c.args.child.0) - 1) c.requires.around.place held in (
      near_more (depth c.args.tree.now.nodes (c.args.child.0) - 1 + 1) 65536 c.placed-place.result.left (omega (arith, short, least)) near.0,
      near_more (depth c.args.tree.now.nodes (c.args.child.0) - 1 + 1) 65536 c.placed-place.result.top (omega (arith, short, least)) near.1,
    )

pub with-requires-clause-place : goal.with-requires-clause-place
with-requires-clause-place g c =
    let short = low_enough c.position-position.ensures.forest (c.args.child.0) in
    let least = depth_positive c.args.tree.now.nodes (c.args.child.0) in
    let held = c.holding-held.ensures.range (depth c.args.tree.now.nodes (c.args.child.0) - 1) c.requires.around in
    let near = c.placed-place.ensures.range (depth c.args.tree.now.nodes (c.args.child.0) - 1) c.requires.around.place held in (
      near_more (depth c.args.tree.now.nodes (c.args.child.0) - 1 + 1) 65536 c.placed-place.result.left (omega (arith, short, least)) near.0,
      near_more (depth c.args.tree.now.nodes (c.args.child.0) - 1 + 1) 65536 c.placed-place.result.top (omega (arith, short, least)) near.1,
    )

pub returns-clause-around : goal.returns-clause-around
returns-clause-around g c at view opens p are up inner own_is outer_is around =
    let low = shallow g.P.Placed.placed c.args.tree.now.nodes at are c.position-position.ensures.forest in
    let is = c.position-position.ensures.value at are in
    let held = c.holding-held.ensures.value at view opens p (c.args.child.0) low up is around in
    let place_is = c.placed-place.ensures.value at view p are up own_is outer_is around.place held.1 in
    c.inside.ensures.value at view opens p (c.args.child.0) low up is around place_is own_is
    (let out = inner (c.args.child.0) p (in_self at p) up in
    elim c.if-held.branch [
      | then-held w ↦ w.inside-is ∙ sym (out ∙ ap (λ b. b && not (clips (at (c.args.child.0)))) (sym held.0 ∙ w.if-held.true) ∙ ap not (sym (ap (λ (m : Measured). m.clips) own_is)))
      | else-held w ↦ w.inside-is ∙ w.if-held.false ∙ sym (out ∙ ap (λ b. b && not (clips (at (c.args.child.0)))) (sym held.0 ∙ w.if-held.false))
    ])

pub returns-clause-far : goal.returns-clause-far
returns-clause-far g c at view opens p are up boxed own_is outer_is around =
    let low = shallow g.P.Placed.placed c.args.tree.now.nodes at are c.position-position.ensures.forest in
    let is = c.position-position.ensures.value at are in
    let held = c.holding-held.ensures.value at view opens p (c.args.child.0) low up is around in
    let place_is = c.placed-place.ensures.value at view p are up own_is outer_is around.place held.1 in
    far_one at view opens (c.args.child.0) c.args.own.now c.placed-place.result c.args.far c.with.result c.holding-held.result.opened held.0 boxed place_is own_is c.requires.own.border c.with.ensures.value

pub returns-clause-near : goal.returns-clause-near
returns-clause-near g c =
    let least = depth_positive c.args.tree.now.nodes (c.args.child.0) in
    let whole : depth c.args.tree.now.nodes (c.args.child.0) - 1 + 1 ≡ depth c.args.tree.now.nodes (c.args.child.0) = omega (arith, least) in
    let held = c.holding-held.ensures.range (depth c.args.tree.now.nodes (c.args.child.0) - 1) c.requires.around in
    let near = c.placed-place.ensures.range (depth c.args.tree.now.nodes (c.args.child.0) - 1) c.requires.around.place held in
    subst (λ n. IsNearAround n c.inside.result) whole (c.inside.ensures.range (depth c.args.tree.now.nodes (c.args.child.0) - 1) c.requires.around near)
