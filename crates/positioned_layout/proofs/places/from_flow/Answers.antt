use Rattle.std.proofs.Common.{◌≡◌, ℕ, ℤ, Option, Some, None, to_z, of_z, option_map, ap, sym, ◌∙◌}
use Rattle.std.specs.Prelude.{pos, ◌+ℤ◌}
use mir.Syntax.{w64}
use Rattle.layout_model.specs.Nodes.{Node}
use Rattle.layout_model.specs.Points.{moved}
use Rattle.layout_model.specs.Views.{View}
use Rattle.layout_model.specs.FlatPlaces.{offset_of, above_of, flat_place}
use Rattle.layout_model.proofs.Ancestors.{in_self, above_in}
use Rattle.element_tree.proofs.Depths.{some_of_ids, none_of_ids}
use Rattle.positioned_layout.specs.declared.insets.Axis.{Axis}
use Rattle.positioned_layout.specs.declared.insets.Axis.TheVariants.{Across, Down}
use Rattle.positioned_layout.specs.Along.{part}
use Rattle.positioned_layout.specs.Measured.{IsMeasureOf}
use Rattle.positioned_layout.specs.Seen.{seen_measure, IsReach}
use Rattle.positioned_layout.proofs.Holding.{parent_above}
use Rattle.positioned_layout.proofs.Nodes.{shallow}
use Rattle.positioned_layout.proofs.Numbers.{flow_again}
use Rattle.positioned_layout.proofs.Placing.{flow_part, boxed_above, each_axis}
use Rattle.positioned_layout.proofs.places.from_flow.Goals as goal

in_flow : (at : ℕ → Node) (view : View) (n : ℕ) (found : Option ℕ) → (at n).parent ≡ found → (axis : Axis) (by more : ℤ) → more ≡ pos (part axis (offset_of at view n)) → IsReach by → IsReach more
    → part axis (moved (above_of (flat_place at view) ((at n).parent)) (offset_of at view n)) +ℤ by ≡ part axis (above_of (flat_place at view) found) +ℤ to_z w64 (of_z w64 (to_z w64 (of_z w64 more) +ℤ to_z w64 (of_z w64 by)))
in_flow at view n found up axis by more is reach span =
    ap (λ x. x +ℤ by) (flow_part at view axis n found up ∙ ap (λ x. part axis (above_of (flat_place at view) found) +ℤ x) (sym is))
    ∙ flow_again (part axis (above_of (flat_place at view) found)) by more reach span

pub returns-in_default-clause-value : goal.returns-in_default-clause-value
returns-in_default-clause-value g c at view are up boxed own_is =
    let n = c.args.node.0 in
    let top = are.parent n ∙ none_of_ids _ (sym c.parent.ensures.value ∙ c.in_default.is) in
    each_axis _
    (in_flow at view n None top Across c.args.left c.top_offset.result (c.top_offset.ensures.value at view n top own_is) c.requires.left c.top_offset.ensures.range)
    (in_flow at view n None top Down c.args.top c.top_offset-in_default.result (c.top_offset-in_default.ensures.value at view n top own_is) c.requires.top c.top_offset-in_default.ensures.range)

pub returns-clause-value : goal.returns-clause-value
returns-clause-value g c at view are up boxed own_is =
    let n = c.args.node.0 in
    let p = c.in-Some.parent.0 in
    let low = shallow g.P.Placed.placed c.args.tree.now.nodes at are c.parent.ensures.forest in
    let parent = are.parent n ∙ some_of_ids _ c.in-Some.parent (sym c.parent.ensures.value ∙ c.in-Some.is) in
    let inside = above_in at low p n p parent (in_self at p) in
    let of : IsMeasureOf at view p (option_map seen_measure c.measure-outer.result) = c.measure-outer.ensures.value ∙ up p inside in
    let on = boxed_above at low view p n inside boxed in
    each_axis _
    (in_flow at view n (Some p) parent Across c.args.left c.offset_in.result (c.offset_in.ensures.value at view n p parent of on own_is) c.requires.left c.offset_in.ensures.range)
    (in_flow at view n (Some p) parent Down c.args.top c.offset_in-2.result (c.offset_in-2.ensures.value at view n p parent of on own_is) c.requires.top c.offset_in-2.ensures.range)

pub returns-clause-above : goal.returns-clause-above
returns-clause-above g c =
    parent_above c.parent.ensures.forest (c.args.node.0) (c.in-Some.parent.0) (some_of_ids _ c.in-Some.parent (sym c.parent.ensures.value ∙ c.in-Some.is))

pub returns-clause-inside : goal.returns-clause-inside
returns-clause-inside g c at are =
    let p = c.in-Some.parent.0 in
    above_in at (shallow g.P.Placed.placed c.args.tree.now.nodes at are c.parent.ensures.forest) p (c.args.node.0) p
    (are.parent (c.args.node.0) ∙ some_of_ids _ c.in-Some.parent (sym c.parent.ensures.value ∙ c.in-Some.is)) (in_self at p)
