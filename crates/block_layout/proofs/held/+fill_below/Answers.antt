use Rattle.std.proofs.Common.{◌≡◌, ◌+◌, suc, length, option_map, refl, ap, sym, ◌∙◌, arith}
use Rattle.std.proofs.lemmas.Bool.{false≢true}
use Rattle.px_units.specs.Lengths.{cap}
use Rattle.layout_model.specs.Nodes.{is_in_path}
use Rattle.element_tree.proofs.Facts.{child_in_range}
use Rattle.element_tree.proofs.Levels.{kid_depth, kid_parent, low_enough}
use Rattle.element_tree.specs.Forest.{children_of}
use Rattle.block_layout.specs.Counts.{box_count}
use Rattle.block_layout.specs.Filling.{if_shown, inputs_if_block, box_with, height_of, steps_of}
use Rattle.block_layout.specs.Held.{held_in}
use Rattle.block_layout.specs.Seen.{seen_inputs}
use Rattle.block_layout.specs.Trees.{layout_tree}
use Rattle.block_layout.proofs.Ancestors.{in_self, beside_child}
use Rattle.block_layout.proofs.Filled.{filled_on, box_filled, steps_filled, held_on, held_done}
use Rattle.block_layout.proofs.Forests.{linked, shallow, depth_same}
use Rattle.block_layout.proofs.Kids.{rest, rest_none, here_of, met_in}
use Rattle.block_layout.proofs.Nodes.{parent_is, children_is}
use Rattle.block_layout.proofs.Unpositioned.{below_still}
use Rattle.block_layout.proofs.held.+fill_below.Goals as goal

pub inputs_of_child-inner-requires : goal.inputs_of_child-inner-requires
inputs_of_child-inner-requires g t c =
    let forest = c.inputs_within-within.ensures.forest in
    child_in_range forest (c.args.node.0) (c.in-Some.child.0)
    (here_of forest (c.args.node.0) (children_of c.args.tree.now.nodes (c.args.node.0)) c.loop-next.next c.in-Some.child c.in-Some.is c.loop-next.invariant.among refl)

pub fill_below-requires : goal.fill_below-requires
fill_below-requires g t c κs within =
    let forest = c.inputs_within-within.ensures.forest in
    let here = here_of forest (c.args.node.0) (children_of c.args.tree.now.nodes (c.args.node.0)) c.loop-next.next c.in-Some.child c.in-Some.is c.loop-next.invariant.among refl in
    let deeper = kid_depth forest (c.args.node.0) (c.in-Some.child.0) here in
    let low = low_enough forest (c.in-Some.child.0) in
    let inside = child_in_range forest (c.args.node.0) (c.in-Some.child.0) here in
    (omega arith, (within.0, (within.1, inside)))

pub loop-next-smaller : goal.loop-next-smaller
loop-next-smaller g t c =
    let kid = met_in c.inputs_within-within.ensures.forest (c.args.node.0) (children_of c.args.tree.now.nodes (c.args.node.0)) c.loop-next.next c.in-Some.child c.in-Some.is c.loop-next.invariant.among refl c.next_sibling-next.result c.next_sibling-next.ensures.value in
    let shorter : length (rest c.loop-next.next (children_of c.args.tree.now.nodes (c.args.node.0)))
    ≡ suc (length (rest c.next_sibling-next.result (children_of c.args.tree.now.nodes (c.args.node.0)))) = ap length kid.step in
    omega arith

pub loop-next-preserved : goal.loop-next-preserved
loop-next-preserved g t c =
    let at = layout_tree g.P.Styled.style g.P.Styled.kind c.args.tree.now.nodes in
    let forest = c.inputs_within-within.ensures.forest in
    let kid = met_in forest (c.args.node.0) (children_of c.args.tree.now.nodes (c.args.node.0)) c.loop-next.next c.in-Some.child c.in-Some.is c.loop-next.invariant.among refl c.next_sibling-next.result c.next_sibling-next.ensures.value in
    let up = parent_is g.P.Styled.style g.P.Styled.kind c.args.tree.now.nodes (c.in-Some.child.0) ∙ kid_parent forest (c.args.node.0) (c.in-Some.child.0) kid.here in
    let below = below_still at (linked g.P.Styled.style g.P.Styled.kind forest) (shallow g.P.Styled.style g.P.Styled.kind forest) (c.args.node.0) in
    record {
      among = kid.among;
      low = omega arith;
      filled = λ still. filled_on at (option_map seen_inputs c.inputs_within-within.result) (children_of c.args.tree.now.nodes (c.args.node.0)) _ _ (c.in-Some.child.0) _ _ _ kid.step (c.loop-next.invariant.filled still) _ _
          (c.added-inside.ensures.value ∙ ap (λ height. cap (c.loop-next.inside + height)) (c.fill_below.ensures.value (below still (c.in-Some.child.0) up) ∙ ap (λ o. height_of (box_with at o (c.in-Some.child.0))) c.inputs_of_child-inner.ensures.value))
          (c.fill_below.ensures.ticks (below still (c.in-Some.child.0) up) ∙ ap (λ o. c.loop-next.steps + steps_of o (box_count at (c.in-Some.child.0))) c.inputs_of_child-inner.ensures.value);
      held = λ still wanted down own. held_on at (children_of c.args.tree.now.nodes (c.args.node.0)) _ _ (c.in-Some.child.0) kid.step (held_in c.loop-next.places) (held_in c.fill_below.new.places) (λ n. box_with at (wanted n) n) _
          (c.loop-next.invariant.held still wanted down own)
          (λ n inside low. c.fill_below.ensures.under (below still (c.in-Some.child.0) up) wanted
          (λ d p up far. down d p up (omega (arith, far, depth_same g.P.Styled.style g.P.Styled.kind forest (c.args.node.0), depth_same g.P.Styled.style g.P.Styled.kind forest (c.in-Some.child.0), kid.deeper)))
          (down (c.in-Some.child.0) (c.args.node.0) up (omega arith)
          ∙ ap (λ o. if_shown ((at (c.in-Some.child.0)).item.style.hidden) (inputs_if_block ((at (c.args.node.0)).item.kind) ((at (c.args.node.0)).item) o)) own
          ∙ ap (if_shown ((at (c.in-Some.child.0)).item.style.hidden)) (sym c.inputs_within-within.ensures.value)
          ∙ sym c.inputs_of_child-inner.ensures.value)
          n inside (omega arith))
          c.fill_below.ensures.others;
      others = λ n outside. c.fill_below.ensures.others n (beside_child g.P.Styled.style g.P.Styled.kind forest (c.args.node.0) (c.in-Some.child.0) n kid.here outside) ∙ c.loop-next.invariant.others n outside;
    }

pub returns-clause-value : goal.returns-clause-value
returns-clause-value g t c still =
    let at = layout_tree g.P.Styled.style g.P.Styled.kind c.args.tree.now.nodes in
    let forest = c.inputs_within-within.ensures.forest in
    c.hold.ensures.value
    ∙ ap height_of
    (box_filled at (linked g.P.Styled.style g.P.Styled.kind forest) (shallow g.P.Styled.style g.P.Styled.kind forest) (c.args.node.0) still _ _ _ _ (rest_none _ _ c.in_default.is)
    (option_map seen_inputs c.args.inputs) _ _ c.inputs_within-within.ensures.value (sym (children_is g.P.Styled.style g.P.Styled.kind c.args.tree.now.nodes (c.args.node.0))) (c.loop-next.invariant.filled still))

pub returns-clause-under : goal.returns-clause-under
returns-clause-under g t c still wanted down own n inside low =
    let at = layout_tree g.P.Styled.style g.P.Styled.kind c.args.tree.now.nodes in
    let forest = c.inputs_within-within.ensures.forest in
    held_done g.P.Styled.style g.P.Styled.kind forest (c.args.node.0) _ (rest_none _ _ c.in_default.is) (held_in c.loop-next.places) (held_in c.hold.new.places) (λ m. box_with at (wanted m) m) _
    (c.loop-next.invariant.held still wanted down own)
    (λ short. c.hold.ensures.own (omega arith)
    ∙ box_filled at (linked g.P.Styled.style g.P.Styled.kind forest) (shallow g.P.Styled.style g.P.Styled.kind forest) (c.args.node.0) still _ _ _ _ (rest_none _ _ c.in_default.is)
    (option_map seen_inputs c.args.inputs) _ _ c.inputs_within-within.ensures.value (sym (children_is g.P.Styled.style g.P.Styled.kind c.args.tree.now.nodes (c.args.node.0))) (c.loop-next.invariant.filled still)
    ∙ ap (λ o. box_with at o (c.args.node.0)) (sym own))
    c.hold.ensures.others n inside low

pub returns-clause-others : goal.returns-clause-others
returns-clause-others g t c n outside =
    let at = layout_tree g.P.Styled.style g.P.Styled.kind c.args.tree.now.nodes in
    let forest = c.inputs_within-within.ensures.forest in
    c.hold.ensures.others n (λ same. false≢true (sym outside ∙ ap (is_in_path at (c.args.node.0)) same ∙ in_self at (c.args.node.0)))
    ∙ c.loop-next.invariant.others n outside

pub returns-clause-ticks : goal.returns-clause-ticks
returns-clause-ticks g t c still =
    let at = layout_tree g.P.Styled.style g.P.Styled.kind c.args.tree.now.nodes in
    let forest = c.inputs_within-within.ensures.forest in
    c.hold.ensures.ticks
    ∙ steps_filled at (linked g.P.Styled.style g.P.Styled.kind forest) (shallow g.P.Styled.style g.P.Styled.kind forest) (c.args.node.0) still _ _ _ _ (rest_none _ _ c.in_default.is)
    (option_map seen_inputs c.args.inputs) _ _ c.inputs_within-within.ensures.value (sym (children_is g.P.Styled.style g.P.Styled.kind c.args.tree.now.nodes (c.args.node.0))) (c.loop-next.invariant.filled still)
