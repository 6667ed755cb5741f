use Rattle.std.proofs.Common.{Option, true, refl, subst, ap, sym, ◌∙◌, arith}
use Rattle.std.proofs.lemmas.Int.{ints}
use Rattle.std.specs.Prelude.{IfSome, pos}
use Rattle.layout_model.proofs.Holders.{holder_of_top}
use Rattle.positioned_layout.specs.declared.Measure.{Measure}
use Rattle.positioned_layout.specs.declared.reaches.Farthest.{Farthest}
use Rattle.positioned_layout.specs.declared.reaches.Held.{Held}
use Rattle.positioned_layout.specs.Measured.{is_come_to, IsComeTo}
use Rattle.positioned_layout.specs.Seen.{as_size, IsMeasure}
use Rattle.positioned_layout.specs.Walked.{opens_view, IsHeld}
use Rattle.positioned_layout.proofs.Nodes.{shallow}
use Rattle.positioned_layout.proofs.Numbers.{pair_is}
use Rattle.positioned_layout.proofs.Opening.{view_inside, view_root_opens, comes_to, absolute_top, view_far, view_bare}
use Rattle.positioned_layout.proofs.Placing.{measured_at, measured_boxed, measured_none}
use Rattle.positioned_layout.proofs.Walking.{far_one}
use Rattle.positioned_layout.proofs.reaches.view_reach.Goals as goal

pub returns-in_default-clause-value : goal.returns-in_default-clause-value
returns-in_default-clause-value g c top at view are root_is width_is height_is measures =
    let root = c.args.root.0 in
    let first = are.parent root ∙ top in
    let come : IsComeTo at view root = subst (is_come_to at view root) (sym first) root_is in
    c.capped.ensures.value
    ∙ ap as_size
    (view_bare at view root root_is first (record { corner = record { left = pos 0; top = pos 0 }; size = c.args.view }) refl (pair_is _ _ _ _ (sym width_is) (sym height_is))
    (λ boxed. measured_none at view root _ (measures root come) boxed c.measure.result c.measure.ensures.value c.in_default.is))

pub with-requires-clause-place : goal.with-requires-clause-place
with-requires-clause-place g c = c.flat_place-place.ensures.short

pub far_below-requires-clause-around : goal.far_below-requires-clause-around
far_below-requires-clause-around g c = record {
  place = c.flat_place-place.ensures.range;
  absolute = ((omega (arith, ints), omega (arith, ints)), (omega (arith, ints), omega (arith, ints)));
  fixed = ((omega (arith, ints), omega (arith, ints)), (omega (arith, ints), omega (arith, ints)));
}

pub returns-clause-value : goal.returns-clause-value
returns-clause-value g c top at view are root_is width_is height_is measures =
    let root = c.args.root.0 in
    let first = are.parent root ∙ top in
    let come : IsComeTo at view root = subst (is_come_to at view root) (sym first) root_is in
    let forest = c.far_below.ensures.forest in
    let low = shallow g.P.Placed.placed c.args.tree.now.nodes at are forest in
    let boxed = measured_boxed at view root _ (measures root come) c.measure.result c.in-Some.own c.measure.ensures.value c.in-Some.is in
    let own_is = measured_at at view root _ (measures root come) boxed c.measure.result c.in-Some.own c.measure.ensures.value c.in-Some.is in
    let range : IsMeasure c.in-Some.own = subst (λ (o : Option Measure). IfSome o IsMeasure) {x = c.measure.result} c.in-Some.is c.measure.ensures.range in
    let flat_is = c.flat_place-place.ensures.value at view are (λ m inside. measures m (comes_to at low view root m inside boxed)) boxed in
    let begun : Farthest = record { corner = record { left = pos 0; top = pos 0 }; size = c.args.view } in
    let page : Held = record { corner = record { left = pos 0; top = pos 0 }; opened = true } in
    let own = far_one at view (opens_view at) root c.in-Some.own c.flat_place-place.result begun c.with.result true (sym (ap (opens_view at) (holder_of_top at root first))) boxed flat_is own_is range.border c.with.ensures.value in
    let kids = c.far_below.ensures.value at view (opens_view at) are measures (view_inside at low root) boxed own_is
    (record {
      place = flat_is;
      flow = sym (view_root_opens at low root first);
      absolute = subst (λ by. IsHeld at view (opens_view at) by page) (sym (absolute_top at low root first)) (record { corner = refl; opened = refl });
      fixed = record { corner = refl; opened = refl };
    }) in
    c.capped-2.ensures.value
    ∙ ap as_size (view_far g.P.Placed.placed c.args.tree.now.nodes at are forest view root root_is begun c.with.result c.far_below.result refl (pair_is _ _ _ _ (sym width_is) (sym height_is)) c.with.ensures.corner own kids)
