use Rattle.std.proofs.Common.{Option, refl, subst, ap, sym, ◌∙◌, arith}
use Rattle.std.proofs.lemmas.Int.{ints}
use Rattle.std.specs.Prelude.{is_some, IfSome}
use Rattle.layout_model.proofs.Ancestors.{in_self}
use Rattle.positioned_layout.specs.declared.Measure.{Measure}
use Rattle.positioned_layout.specs.Measured.{Measured}
use Rattle.positioned_layout.specs.Seen.{as_size, IsMeasure}
use Rattle.positioned_layout.specs.Walked.{opens_in}
use Rattle.positioned_layout.proofs.Nodes.{shallow}
use Rattle.positioned_layout.proofs.Opening.{opens_inside, opens_self, comes_to, container_far}
use Rattle.positioned_layout.proofs.Placing.{measured_at, measured_none}
use Rattle.positioned_layout.proofs.reaches.container_reach.Goals as goal

pub returns-in_default-clause-value : goal.returns-in_default-clause-value
returns-in_default-clause-value g c at view inputs are measures found =
    let n = c.args.node.0 in
    let low = shallow g.P.Placed.placed c.args.tree.now.nodes at are c.is_positioned-positioned.ensures.forest in
    let boxed = ap is_some found in
    absurd (measured_none at view n _ (measures n (comes_to at low view n n (in_self at n) boxed)) boxed c.measure.result c.measure.ensures.value c.in_default.is)

pub padding_corner-corner-requires-clause-place : goal.padding_corner-corner-requires-clause-place
padding_corner-corner-requires-clause-place g c = c.flat_place-place.ensures.short

pub far_below-requires-clause-around : goal.far_below-requires-clause-around
far_below-requires-clause-around g c = record {
  place = c.flat_place-place.ensures.range;
  absolute = c.absolute_holder.ensures.range;
  fixed = ((omega (arith, ints), omega (arith, ints)), (omega (arith, ints), omega (arith, ints)));
}

pub far_below-requires-clause-room : goal.far_below-requires-clause-room
far_below-requires-clause-room g c =
    let range : IsMeasure c.in-Some.own = subst (λ (o : Option Measure). IfSome o IsMeasure) {x = c.measure.result} c.in-Some.is c.measure.ensures.range in
    record {
      corner = c.padding_corner-corner.ensures.range 65536 c.flat_place-place.ensures.short;
      width = (range.padding.0.0, omega (arith, ints, range.padding.0.1));
      height = (range.padding.1.0, omega (arith, ints, range.padding.1.1));
    }

pub returns-clause-value : goal.returns-clause-value
returns-clause-value g c at view inputs are measures found =
    let n = c.args.node.0 in
    let forest = c.is_positioned-positioned.ensures.forest in
    let low = shallow g.P.Placed.placed c.args.tree.now.nodes at are forest in
    let boxed = ap is_some found in
    let own_is = measured_at at view n _ (measures n (comes_to at low view n n (in_self at n) boxed)) boxed c.measure.result c.in-Some.own c.measure.ensures.value c.in-Some.is in
    let flat_is = c.flat_place-place.ensures.value at view are (λ m inside. measures m (comes_to at low view n m inside boxed)) boxed in
    let corner_is = c.padding_corner-corner.ensures.value at view n flat_is own_is in
    let open_is = ap (λ (m : Measured). m.clips) own_is ∙ sym (opens_self at low n) in
    let absolute = c.absolute_holder.ensures.value at view are low (λ m inside. measures m (comes_to at low view n m inside boxed)) (c.is_positioned-positioned.ensures.value at are) boxed (record { corner = corner_is; opened = open_is }) in
    let far = c.far_below.ensures.value at view (opens_in at n) are measures (opens_inside at low n) boxed own_is
    (record { place = flat_is; flow = open_is; absolute = absolute; fixed = record { corner = refl; opened = refl } }) in
    c.capped.ensures.value
    ∙ ap as_size (container_far g.P.Placed.placed c.args.tree.now.nodes at are forest view n inputs c.in-Some.own (record { corner = c.padding_corner-corner.result; size = c.in-Some.own.padding }) c.far_below.result found own_is corner_is refl far)
