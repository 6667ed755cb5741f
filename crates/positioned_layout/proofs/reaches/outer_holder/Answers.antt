use Rattle.std.proofs.Common.{◌<◌, Option, length, option_map, subst, ap, sym, ◌∙◌, arith}
use Rattle.std.specs.Prelude.{IfSome}
use Rattle.px_units.specs.declared.Point.{Point}
use Rattle.layout_model.specs.Nodes.{ancestors_of, is_positioned, held_by}
use Rattle.layout_model.specs.FlatPlaces.{corner_of, flat_place}
use Rattle.layout_model.proofs.Ancestors.{found_among, proper_in_path, in_path_trans}
use Rattle.element_tree.specs.declared.node.NodeId.{NodeId}
use Rattle.element_tree.specs.Forest.{depth}
use Rattle.element_tree.specs.Links.{number}
use Rattle.element_tree.proofs.Levels.{low_enough}
use Rattle.positioned_layout.specs.Seen.{as_place}
use Rattle.positioned_layout.proofs.Nodes.{shallow}
use Rattle.positioned_layout.proofs.Numbers.{near_more, corner_more}
use Rattle.positioned_layout.proofs.Placing.{boxed_above, measured_at, measured_none}
use Rattle.positioned_layout.proofs.reaches.outer_holder.Goals as goal

pub returns-in_default-measure-clause-value : goal.returns-in_default-measure-clause-value
returns-in_default-measure-clause-value g c at view are up boxed =
    let low = shallow g.P.Placed.placed c.args.tree.now.nodes at are c.positioned_ancestor.ensures.forest in
    let a = c.in-Some.ancestor.0 in
    let found = sym (c.positioned_ancestor.ensures.value at are) ∙ ap (λ (o : Option NodeId). option_map number o) c.in-Some.is in
    let inside = proper_in_path at low a (c.args.node.0) (found_among (λ m. is_positioned (at m)) (ancestors_of at (c.args.node.0)) a found) in
    absurd (measured_none at view a _ (up a inside) (boxed_above at low view a (c.args.node.0) inside boxed) c.measure.result c.measure.ensures.value c.in_default-measure.is)

pub padding_corner-requires-clause-place : goal.padding_corner-requires-clause-place
padding_corner-requires-clause-place g c =
    let short = low_enough c.positioned_ancestor.ensures.forest (c.in-Some.ancestor.0) in
    let near = c.flat_place.ensures.range in
    (near_more (depth c.args.tree.now.nodes (c.in-Some.ancestor.0)) 65536 c.flat_place.result.left short near.0, near_more (depth c.args.tree.now.nodes (c.in-Some.ancestor.0)) 65536 c.flat_place.result.top short near.1)

pub returns-clause-value : goal.returns-clause-value
returns-clause-value g c at view are up boxed =
    let low = shallow g.P.Placed.placed c.args.tree.now.nodes at are c.positioned_ancestor.ensures.forest in
    let a = c.in-Some.ancestor.0 in
    let found = sym (c.positioned_ancestor.ensures.value at are) ∙ ap (λ (o : Option NodeId). option_map number o) c.in-Some.is in
    let inside = proper_in_path at low a (c.args.node.0) (found_among (λ m. is_positioned (at m)) (ancestors_of at (c.args.node.0)) a found) in
    let holder_boxed = boxed_above at low view a (c.args.node.0) inside boxed in
    let own_is = measured_at at view a _ (up a inside) holder_boxed c.measure.result c.in-Some-measure.own c.measure.ensures.value c.in-Some-measure.is in
    c.padding_corner.ensures.value at view a (c.flat_place.ensures.value at view are (λ m over. up m (in_path_trans at low m a (c.args.node.0) over inside)) holder_boxed) own_is
    ∙ ap {B = Point} (λ o. as_place (corner_of at (flat_place at view) (held_by o))) (sym found)

pub returns-clause-range : goal.returns-clause-range
returns-clause-range g c =
    let above = subst (λ (o : Option NodeId). IfSome o (λ a. (a.0 < length c.args.tree.now.nodes) × (depth c.args.tree.now.nodes a.0 < depth c.args.tree.now.nodes (c.args.node.0)))) c.in-Some.is c.positioned_ancestor.ensures.above in
    let near = c.padding_corner.ensures.range (depth c.args.tree.now.nodes (c.in-Some.ancestor.0)) c.flat_place.ensures.range in (
      corner_more (depth c.args.tree.now.nodes (c.in-Some.ancestor.0)) (depth c.args.tree.now.nodes (c.args.node.0)) c.padding_corner.result.left (omega (arith, above.1)) near.0,
      corner_more (depth c.args.tree.now.nodes (c.in-Some.ancestor.0)) (depth c.args.tree.now.nodes (c.args.node.0)) c.padding_corner.result.top (omega (arith, above.1)) near.1,
    )
