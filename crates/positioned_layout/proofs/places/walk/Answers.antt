use Rattle.std.proofs.Common.{◌≡◌, ◌<◌, ◌≤◌, ℕ, ℤ, cond, Option, Some, true, length, option_map, subst, ap, sym, ◌∙◌, arith, to_z, of_z}
use Rattle.std.proofs.lemmas.Int.{ints}
use Rattle.std.specs.Prelude.{is_some, pos, ◌+ℤ◌}
use mir.Syntax.{w64}
use Rattle.layout_model.specs.Nodes.{is_in_path, holder}
use Rattle.layout_model.specs.Points.{moved}
use Rattle.layout_model.specs.Views.{inputs_in_view}
use Rattle.layout_model.specs.FlatPlaces.{offset_of, corner_of, above_of, flat_place}
use Rattle.layout_model.proofs.Ancestors.{in_self, in_path_trans}
use Rattle.element_tree.specs.declared.node.NodeId.{NodeId}
use Rattle.element_tree.specs.Forest.{above, depth}
use Rattle.element_tree.specs.Links.{number}
use Rattle.element_tree.proofs.Depths.{depth_positive}
use Rattle.element_tree.proofs.Levels.{low_enough}
use Rattle.positioned_layout.specs.declared.insets.Axis.{Axis}
use Rattle.positioned_layout.specs.declared.insets.Axis.TheVariants.{Across, Down}
use Rattle.positioned_layout.specs.declared.insets.Moved.{Moved}
use Rattle.positioned_layout.specs.Along.{part, is_held, moved_by, place_of}
use Rattle.positioned_layout.specs.Seen.{seen_measure, IsNear, IsReach, IsWalked}
use Rattle.positioned_layout.proofs.Holding.{if_number, less_above}
use Rattle.positioned_layout.proofs.Nodes.{shallow}
use Rattle.positioned_layout.proofs.Numbers.{reach_again}
use Rattle.positioned_layout.proofs.Placing.{boxed_above, each_axis, measured_at, measured_none}
use Rattle.positioned_layout.proofs.places.walk.Goals as goal

nothing_more : (axis : Axis) (x : ℤ) → x ≡ x +ℤ part axis (pos 0, pos 0)
nothing_more Across x = omega (arith, ints)
nothing_more Down x = omega (arith, ints)

walked_on : (from here to : ℕ) (x y : ℤ) → IsWalked from here x → IsNear 65536 x → IsNear 1 y → to < here → IsWalked from to (to_z w64 (of_z w64 (x +ℤ to_z w64 (of_z w64 y))))
walked_on from here to x y walked near step less = (omega (arith, ints, walked, near, step, less), omega (arith, ints, walked, near, step, less))

walked_near : (from to : ℕ) (x : ℤ) → IsWalked from to x → from ≤ 65536 → IsNear 65536 x
walked_near from to x walked low = (omega (arith, ints, walked, low), omega (arith, ints, walked, low))

added : (x y flat near far : ℤ) → IsNear 65536 x → IsNear 1 y → flat ≡ near +ℤ x → near ≡ far +ℤ y → flat ≡ far +ℤ to_z w64 (of_z w64 (x +ℤ to_z w64 (of_z w64 y)))
added x y flat near far one other first second = omega (arith, ints, one, other, first, second)

-- a step further out is taken on the axes that are walked along
onward : (axis : Axis) (x z y u flat near far : ℤ) → IsNear 65536 x → IsNear 65536 z → IsNear 1 y → IsNear 1 u → flat ≡ near +ℤ part axis (x, z) → near ≡ far +ℤ part axis (y, u)
    → flat ≡ far +ℤ part axis (to_z w64 (of_z w64 (x +ℤ to_z w64 (of_z w64 y))), to_z w64 (of_z w64 (z +ℤ to_z w64 (of_z w64 u))))
onward Across x z y u flat near far one other more further first second = added x y flat near far one more first second
onward Down x z y u flat near far one other more further first second = added z u flat near far other further first second

-- a box that is moved on an axis, and the step in its way
stepped : (axis : Axis) (across down : Moved) (left top flat corner flow far : ℤ) → left ≡ moved_by across → top ≡ moved_by down → IsReach left → IsReach top
    → flat ≡ cond (is_held (part axis (across, down))) corner flow +ℤ moved_by (part axis (across, down))
    → cond (is_held (part axis (across, down))) corner flow +ℤ part axis (to_z w64 (of_z w64 left), to_z w64 (of_z w64 top)) ≡ far → flat ≡ far
stepped Across across down left top flat corner flow far one other reach more is step = is ∙ ap (λ x. cond (is_held across) corner flow +ℤ x) (sym (reach_again left reach ∙ one)) ∙ step
stepped Down across down left top flat corner flow far one other reach more is step = is ∙ ap (λ x. cond (is_held down) corner flow +ℤ x) (sym (reach_again top more ∙ other)) ∙ step

pub loop-next-init : goal.loop-next-init
loop-next-init g c = record {
  inside = λ n met. let same : c.args.node.0 ≡ n = cc in subst (λ m. m < length c.args.tree.now.nodes) same c.requires;
  measured = λ n met. let same : c.args.node.0 ≡ n = cc in subst (λ m. option_map seen_measure c.measure-measured.result ≡ g.M.Measures.measured c.args.measures.now m) same c.measure-measured.ensures.value;
  measure = c.measure-measured.ensures.range;
  left = (omega (arith, ints), omega (arith, ints));
  top = (omega (arith, ints), omega (arith, ints));
  short = ((omega (arith, ints), omega (arith, ints)), (omega (arith, ints), omega (arith, ints)));
  path = λ at view are up boxed n met. let same : c.args.node.0 ≡ n = cc in subst (λ m. (is_in_path at m (c.args.node.0) ≡ true) × (is_some (inputs_in_view at view m) ≡ true)) same (in_self at (c.args.node.0), boxed);
  value = λ at view are up boxed a on. nothing_more a (part a (flat_place at view (c.args.node.0)));
}

pub returns-in_default-measured-clause-value : goal.returns-in_default-measured-clause-value
returns-in_default-measured-clause-value g c at view are up boxed a on =
    let n = c.in-Some.at.0 in
    let here : option_map number c.loop-next.next ≡ Some n = ap (λ (o : Option NodeId). option_map number o) c.in-Some.is in
    let met = c.loop-next.invariant.path at view are up boxed n here in
    absurd (measured_none at view n _ (up n met.0) met.1 c.loop-next.measured (c.loop-next.invariant.measured n here) c.in_default-measured.is)

pub moved_along-across-requires-clause-node : goal.moved_along-across-requires-clause-node
moved_along-across-requires-clause-node g c = c.loop-next.invariant.inside (c.in-Some.at.0) (ap (λ (o : Option NodeId). option_map number o) c.in-Some.is)

pub moved_along-down-requires-clause-node : goal.moved_along-down-requires-clause-node
moved_along-down-requires-clause-node g c = c.loop-next.invariant.inside (c.in-Some.at.0) (ap (λ (o : Option NodeId). option_map number o) c.in-Some.is)

pub returns-in_default-way-clause-value : goal.returns-in_default-way-clause-value
returns-in_default-way-clause-value g c at view are up boxed a on =
    c.loop-next.invariant.value at view are up boxed a on
    ∙ ap (λ (o : Option NodeId). part a (place_of (flat_place at view) (option_map number o)) +ℤ part a (to_z w64 c.loop-next.left-bits, to_z w64 c.loop-next.top-bits)) c.in-Some.is

pub returns-in_default-way-clause-inside : goal.returns-in_default-way-clause-inside
returns-in_default-way-clause-inside g c at view are up boxed =
    let n = c.in-Some.at.0 in
    let low = shallow g.P.Placed.placed c.args.tree.now.nodes at are c.moved_along-across.ensures.forest in
    let met = c.loop-next.invariant.path at view are up boxed n (ap (λ (o : Option NodeId). option_map number o) c.in-Some.is) in
    (λ m over. up m (in_path_trans at low m n (c.args.node.0) over met.0), met.1)

pub loop-next-smaller : goal.loop-next-smaller
loop-next-smaller g c =
    let n = c.in-Some.at.0 in
    let here : above (depth c.args.tree.now.nodes) (option_map number c.loop-next.next) ≡ depth c.args.tree.now.nodes n = ap (λ (o : Option NodeId). above (depth c.args.tree.now.nodes) (option_map number o)) c.in-Some.is in
    let less = less_above (depth c.args.tree.now.nodes) (depth c.args.tree.now.nodes n) (length c.args.tree.now.nodes) (depth_positive c.args.tree.now.nodes n) c.outwards-step.result.to c.outwards-step.ensures.above in
    omega (arith, here, less)

pub loop-next-preserved : goal.loop-next-preserved
loop-next-preserved g c =
    let n = c.in-Some.at.0 in
    let deep = depth c.args.tree.now.nodes in
    let here : above (depth c.args.tree.now.nodes) (option_map number c.loop-next.next) ≡ depth c.args.tree.now.nodes n = ap (λ (o : Option NodeId). above (depth c.args.tree.now.nodes) (option_map number o)) c.in-Some.is in
    let falls = less_above (depth c.args.tree.now.nodes) (depth c.args.tree.now.nodes n) (length c.args.tree.now.nodes) (depth_positive c.args.tree.now.nodes n) c.outwards-step.result.to c.outwards-step.ensures.above in
    let less : above (depth c.args.tree.now.nodes) (option_map number c.outwards-step.result.to) < above (depth c.args.tree.now.nodes) (option_map number c.loop-next.next) = omega (arith, here, falls) in
    let short = low_enough c.moved_along-across.ensures.forest (c.args.node.0) in
    let range = c.outwards-step.ensures.range in
    let before = c.loop-next.invariant in
    let left = walked_on _ _ _ (to_z w64 c.loop-next.left-bits) c.outwards-step.result.left before.left before.short.0 range.0 less in
    let top = walked_on _ _ _ (to_z w64 c.loop-next.top-bits) c.outwards-step.result.top before.top before.short.1 range.1 less in
    record {
      inside = λ m met. (if_number (λ e. (e < length c.args.tree.now.nodes) × (depth c.args.tree.now.nodes e < depth c.args.tree.now.nodes n)) c.outwards-step.result.to c.outwards-step.ensures.above m met).0;
      measured = λ m met. if_number (λ e. option_map seen_measure c.outwards-step.result.outer ≡ g.M.Measures.measured c.args.measures.now e) c.outwards-step.result.to c.outwards-step.ensures.outer m met;
      measure = c.outwards-step.ensures.measure;
      left = left;
      top = top;
      short = (walked_near _ _ _ left short, walked_near _ _ _ top short);
      path = λ at view are up boxed m is.
          let low = shallow g.P.Placed.placed c.args.tree.now.nodes at are c.moved_along-across.ensures.forest in
          let met = before.path at view are up boxed n (ap (λ (o : Option NodeId). option_map number o) c.in-Some.is) in
          let inside = if_number (λ e. is_in_path at e n ≡ true) c.outwards-step.result.to (c.outwards-step.ensures.inside at are) m is in
          (in_path_trans at low m n (c.args.node.0) inside met.0, boxed_above at low view m n inside met.1);
      value = λ at view are up boxed a on.
          let low = shallow g.P.Placed.placed c.args.tree.now.nodes at are c.moved_along-across.ensures.forest in
          let seen : option_map number c.loop-next.next ≡ Some n = ap (λ (o : Option NodeId). option_map number o) c.in-Some.is in
          let met = before.path at view are up boxed n seen in
          let own_is = measured_at at view n _ (up n met.0) met.1 c.loop-next.measured c.in-Some-measured.own (before.measured n seen) c.in-Some-measured.is in
          let corner : ℤ = part a (corner_of at (flat_place at view) (holder at n)) in
          let flow : ℤ = part a (moved (above_of (flat_place at view) (at n).parent) (offset_of at view n)) in
          let far : ℤ = part a (place_of (flat_place at view) (option_map number c.outwards-step.result.to)) in
          let held = c.way.ensures.value c.in-Some-way.held c.in-Some-way.is a on in
          let by : ℤ = part a (to_z w64 (of_z w64 c.by.result), to_z w64 (of_z w64 c.by-in-Some.result)) in
          let step = ap (λ h. cond h corner flow +ℤ by) held ∙ c.outwards-step.ensures.value at view are (λ m over. up m (in_path_trans at low m n (c.args.node.0) over met.0)) met.1 own_is a in
          let is = each_axis
          (λ axis. part axis (flat_place at view n) ≡ cond (is_held (part axis (c.moved_along-across.result, c.moved_along-down.result))) (part axis (corner_of at (flat_place at view) (holder at n))) (part axis (moved (above_of (flat_place at view) (at n).parent) (offset_of at view n))) +ℤ moved_by (part axis (c.moved_along-across.result, c.moved_along-down.result)))
          (c.moved_along-across.ensures.value at view are own_is) (c.moved_along-down.ensures.value at view are own_is) a in
          let reach_left : IsReach c.by.result = subst (λ x. IsReach x) (sym c.by.ensures) c.moved_along-across.ensures.range in
          let reach_top : IsReach c.by-in-Some.result = subst (λ x. IsReach x) (sym c.by-in-Some.ensures) c.moved_along-down.ensures.range in
          let whole = stepped a c.moved_along-across.result c.moved_along-down.result c.by.result c.by-in-Some.result _ corner flow _ c.by.ensures c.by-in-Some.ensures reach_left reach_top is step in
          let known = before.value at view are up boxed a on ∙ ap (λ (o : Option NodeId). part a (place_of (flat_place at view) (option_map number o)) +ℤ part a (to_z w64 c.loop-next.left-bits, to_z w64 c.loop-next.top-bits)) c.in-Some.is in
          onward a (to_z w64 c.loop-next.left-bits) (to_z w64 c.loop-next.top-bits) c.outwards-step.result.left c.outwards-step.result.top _ (part a (flat_place at view n)) far before.short.0 before.short.1 range.0 range.1 known whole;
    }
