use Rattle.std.proofs.Common.{◌≡◌, ◌-◌, suc, Option, length, option_map, refl, subst, ap, sym, ◌∙◌, arith}
use Rattle.std.proofs.lemmas.Bool.{false≢true}
use Rattle.std.specs.Prelude.{IfSome}
use Rattle.layout_model.proofs.Ancestors.{in_path_of_parent}
use Rattle.element_tree.specs.declared.node.NodeId.{NodeId}
use Rattle.element_tree.specs.Forest.{has, children_of, rest_from, depth}
use Rattle.element_tree.specs.Links.{number}
use Rattle.element_tree.proofs.Facts.{child_in_range}
use Rattle.element_tree.proofs.Levels.{kid_parent, kid_depth, low_enough}
use Rattle.element_tree.proofs.Walks.{walk_whole, walk_among, walk_child, walk_step, walk_on}
use Rattle.positioned_layout.specs.declared.Measure.{Measure}
use Rattle.positioned_layout.specs.declared.reaches.Farthest.{Farthest}
use Rattle.positioned_layout.specs.Seen.{IsMeasure}
use Rattle.positioned_layout.specs.Walked.{IsFar, IsReachedIn, IsNearAround, IsRoom}
use Rattle.positioned_layout.proofs.Closing.{nothing_reached}
use Rattle.positioned_layout.proofs.Nodes.{shallow}
use Rattle.positioned_layout.proofs.Placing.{measured_at, measured_boxed, measured_none}
use Rattle.positioned_layout.proofs.Walking.{far_none, far_turn, far_pass, come_to}
use Rattle.positioned_layout.proofs.reaches.+far_below.Goals as goal
use Rattle.positioned_layout.proofs.reaches.+far_below.Goals.{in-Some-measure, in_default-measure}

pub returns-then-is_closed-clause-value : goal.returns-then-is_closed-clause-value
returns-then-is_closed-clause-value g t c at view opens are measures inner boxed own around =
    far_none at view (IsReachedIn at view opens (children_of c.args.tree.now.nodes (c.args.node.0))) c.args.far
    (nothing_reached g.P.Placed.placed c.args.tree.now.nodes at are c.first_child-next.ensures.forest view opens (c.args.node.0) inner c.args.around around (sym c.is_closed.ensures ∙ c.if-is_closed.true))

pub loop-next-init : goal.loop-next-init
loop-next-init g t c =
    let forest = c.first_child-next.ensures.forest in
    record {
      among = walk_among forest (c.args.node.0) c.first_child-next.result c.first_child-next.ensures.value;
      corner = refl {a = c.args.far.corner};
      room = c.requires.room;
      far = λ at view opens are measures inner boxed own around last rest.
          subst (λ xs. IsFar at view (IsReachedIn at view opens xs) c.args.far last) (walk_whole forest (c.args.node.0) c.first_child-next.result c.first_child-next.ensures.value) rest;
    }

pub enter-entered-requires-clause-child : goal.enter-entered-requires-clause-child
enter-entered-requires-clause-child g t c =
    let forest = c.first_child-next.ensures.forest in
    child_in_range forest (c.args.node.0) (c.in-Some.child.0) (walk_child forest (c.args.node.0) c.loop-next.next c.in-Some.child c.in-Some.is c.loop-next.invariant.among)

pub enter-entered-requires-clause-around : goal.enter-entered-requires-clause-around
enter-entered-requires-clause-around g t c =
    let forest = c.first_child-next.ensures.forest in
    let deeper = kid_depth forest (c.args.node.0) (c.in-Some.child.0) (walk_child forest (c.args.node.0) c.loop-next.next c.in-Some.child c.in-Some.is c.loop-next.invariant.among) in
    let same : depth c.args.tree.now.nodes (c.args.node.0) ≡ depth c.args.tree.now.nodes (c.in-Some.child.0) - 1 = omega (arith, deeper) in
    subst (λ n. IsNearAround n c.args.around) same c.requires.around

pub far_below-farthest-requires : goal.far_below-farthest-requires
far_below-farthest-requires g t c κs within =
    let forest = c.first_child-next.ensures.forest in
    let kid = walk_child forest (c.args.node.0) c.loop-next.next c.in-Some.child c.in-Some.is c.loop-next.invariant.among in
    let deeper = kid_depth forest (c.args.node.0) (c.in-Some.child.0) kid in
    let low = low_enough forest (c.in-Some.child.0) in
    let measure : IsMeasure c.in-Some-measure.own = subst (λ (o : Option Measure). IfSome o IsMeasure) {x = c.measure.result} c.in-Some-measure.is c.measure.ensures.range in
    (omega (arith, deeper, low), (within.0, (within.1, (child_in_range forest (c.args.node.0) (c.in-Some.child.0) kid, (measure, (c.enter-entered.ensures.near, c.enter-entered.ensures.room))))))

pub loop-next-smaller : goal.loop-next-smaller
loop-next-smaller g t c =
    let forest = c.first_child-next.ensures.forest in
    let shorter : length (rest_from (option_map number c.loop-next.next) (children_of c.args.tree.now.nodes (c.args.node.0))) ≡ suc (length (rest_from (option_map number c.next_sibling-next.result) (children_of c.args.tree.now.nodes (c.args.node.0))))
    = ap length (walk_step forest (c.args.node.0) c.loop-next.next c.in-Some.child c.in-Some.is c.loop-next.invariant.among c.next_sibling-next.result c.next_sibling-next.ensures.value) in
    omega (arith, shorter)

pub loop-next-preserved : goal.loop-next-preserved
loop-next-preserved g t c =
    let forest = c.first_child-next.ensures.forest in
    let nodes = c.args.tree.now.nodes in
    let n = c.args.node.0 in
    let child = c.in-Some.child.0 in
    let known = c.loop-next.invariant in
    let kid = walk_child forest n c.loop-next.next c.in-Some.child c.in-Some.is known.among in
    let step = walk_step forest n c.loop-next.next c.in-Some.child c.in-Some.is known.among c.next_sibling-next.result c.next_sibling-next.ensures.value in
    record {
      among = walk_on forest n c.loop-next.next c.in-Some.child c.in-Some.is known.among c.next_sibling-next.result c.next_sibling-next.ensures.value;
      corner = elim c.match-measure.branch [
        | in-Some-measure w ↦ ap (λ (f : Farthest). f.corner) w.farthest-is ∙ w.far_below-farthest.ensures.corner ∙ w.enter-entered.ensures.corner ∙ known.corner
        | in_default-measure w ↦ ap (λ (f : Farthest). f.corner) w.farthest-is ∙ known.corner
      ];
      room = elim c.match-measure.branch [
        | in-Some-measure w ↦ subst (λ (f : Farthest). IsRoom f) (sym w.farthest-is) w.far_below-farthest.ensures.room
        | in_default-measure w ↦ subst (λ (f : Farthest). IsRoom f) (sym w.farthest-is) known.room
      ];
      far = λ at view opens are measures inner boxed own around last rest.
          known.far at view opens are measures inner boxed own around last
          (subst (λ xs. IsFar at view (IsReachedIn at view opens xs) c.loop-next.farthest last) (sym step)
          (let of = measures child (come_to g.P.Placed.placed nodes at are forest view n child kid boxed) in
          elim c.match-measure.branch [
            | in-Some-measure w ↦
                let child_boxed = measured_boxed at view child _ of c.measure.result w.in-Some-measure.own c.measure.ensures.value w.in-Some-measure.is in
                let child_is = measured_at at view child _ of child_boxed c.measure.result w.in-Some-measure.own c.measure.ensures.value w.in-Some-measure.is in
                let up = are.parent child ∙ kid_parent forest n child kid in
                let low = shallow g.P.Placed.placed nodes at are forest in
                far_turn g.P.Placed.placed nodes at are forest view opens child (rest_from (option_map number c.next_sibling-next.result) (children_of nodes n))
                c.loop-next.farthest w.enter-entered.result.far w.far_below-farthest.result last w.enter-entered.ensures.corner w.far_below-farthest.ensures.corner
                (w.enter-entered.ensures.far at view opens n are up child_boxed child_is own around)
                (w.far_below-farthest.ensures.value at view opens are measures (λ d p inside. inner d p (in_path_of_parent at low n child p up inside)) child_boxed child_is
                (w.enter-entered.ensures.around at view opens n are up inner child_is own around))
                (subst (λ (f : Farthest). IsFar at view (IsReachedIn at view opens (rest_from (option_map number c.next_sibling-next.result) (children_of nodes n))) f last) w.farthest-is rest)
            | in_default-measure w ↦
                far_pass g.P.Placed.placed nodes at are forest view opens child (rest_from (option_map number c.next_sibling-next.result) (children_of nodes n)) c.loop-next.farthest last
                (λ some. measured_none at view child _ of some c.measure.result c.measure.ensures.value w.in_default-measure.is)
                (subst (λ (f : Farthest). IsFar at view (IsReachedIn at view opens (rest_from (option_map number c.next_sibling-next.result) (children_of nodes n))) f last) w.farthest-is rest)
          ]));
    }

pub returns-clause-value : goal.returns-clause-value
returns-clause-value g t c at view opens are measures inner boxed own around =
    c.loop-next.invariant.far at view opens are measures inner boxed own around c.loop-next.farthest
    (far_none at view (IsReachedIn at view opens (rest_from (option_map number c.loop-next.next) (children_of c.args.tree.now.nodes (c.args.node.0)))) c.loop-next.farthest
    (λ d here. false≢true (sym (ap (λ (o : Option NodeId). has (rest_from (option_map number o) (children_of c.args.tree.now.nodes (c.args.node.0))) here.0.0) c.in_default.is) ∙ here.0.1)))
