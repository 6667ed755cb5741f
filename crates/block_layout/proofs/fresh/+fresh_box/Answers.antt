use Rattle.std.proofs.Common.{◌≡◌, ◌+◌, suc, length, ap, sym, ◌∙◌, arith}
use Rattle.std.specs.Prelude.{unsigned_abs}
use mir.Syntax.{w64}
use mir.Val.{to_z}
use Rattle.px_units.specs.Lengths.{cap}
use Rattle.layout_model.specs.Boxes.{computed, child_inputs, kids_of, box_in, margin_height}
use Rattle.element_tree.proofs.Facts.{child_in_range}
use Rattle.element_tree.proofs.Levels.{kid_depth, low_enough}
use Rattle.block_layout.specs.Seen.{seen_inputs}
use Rattle.block_layout.specs.Trees.{layout_tree}
use Rattle.block_layout.proofs.Forests.{linked, shallow}
use Rattle.block_layout.proofs.Kids.{rest, rest_first, among_first, rest_none, kid_here, met, sums_begin, sums_passed, sums_stacked, box_done, steps_done}
use Rattle.block_layout.proofs.Nodes.{item_is}
use Rattle.block_layout.proofs.Parts.{unsigned_of}
use Rattle.block_layout.proofs.fresh.+fresh_box.Goals as goal
use Rattle.block_layout.proofs.fresh.+fresh_box.Goals.{then-not-is_passed, else-not-is_passed}

pub loop-next-init : goal.loop-next-init
loop-next-init g t c =
    let at = layout_tree g.P.Styled.style g.P.Styled.kind c.args.tree.now.nodes in
    record {
      among = among_first _ _ c.first_inner-next.ensures.value;
      sums = sums_begin at (box_in at (seen_inputs c.child_inputs-inner.result)) _ _ _ (rest_first _ _ c.first_inner-next.ensures.value);
    }

pub is_passed-requires : goal.is_passed-requires
is_passed-requires g t c =
    let forest = c.first_inner-next.ensures.forest in
    child_in_range forest (c.args.node.0) (c.in-Some.child.0)
    (kid_here g.P.Styled.style g.P.Styled.kind forest (c.args.node.0) c.loop-next.next c.in-Some.child c.in-Some.is c.loop-next.invariant.among)

pub fresh_box-requires : goal.fresh_box-requires
fresh_box-requires g t c κs within =
    let forest = c.first_inner-next.ensures.forest in
    let here = kid_here g.P.Styled.style g.P.Styled.kind forest (c.args.node.0) c.loop-next.next c.in-Some.child c.in-Some.is c.loop-next.invariant.among in
    let deeper = kid_depth forest (c.args.node.0) (c.in-Some.child.0) here in
    let low = low_enough forest (c.in-Some.child.0) in
    let inside = child_in_range forest (c.args.node.0) (c.in-Some.child.0) here in
    (omega arith, (within.0, (within.1, inside)))

pub loop-next-smaller : goal.loop-next-smaller
loop-next-smaller g t c =
    let kid = met g.P.Styled.style g.P.Styled.kind c.first_inner-next.ensures.forest (c.args.node.0) c.loop-next.next c.in-Some.child c.in-Some.is c.loop-next.invariant.among c.next_sibling-next.result c.next_sibling-next.ensures.value in
    let shorter : length (rest c.loop-next.next (kids_of (layout_tree g.P.Styled.style g.P.Styled.kind c.args.tree.now.nodes (c.args.node.0))))
    ≡ suc (length (rest c.next_sibling-next.result (kids_of (layout_tree g.P.Styled.style g.P.Styled.kind c.args.tree.now.nodes (c.args.node.0))))) = ap length kid.step in
    omega arith

pub loop-next-preserved : goal.loop-next-preserved
loop-next-preserved g t c =
    let at = layout_tree g.P.Styled.style g.P.Styled.kind c.args.tree.now.nodes in
    let box = box_in at (seen_inputs c.child_inputs-inner.result) in
    let kid = met g.P.Styled.style g.P.Styled.kind c.first_inner-next.ensures.forest (c.args.node.0) c.loop-next.next c.in-Some.child c.in-Some.is c.loop-next.invariant.among c.next_sibling-next.result c.next_sibling-next.ensures.value in
    record {
      among = kid.among;
      sums = elim c.if-not-is_passed.branch [
        | then-not-is_passed w ↦
            sums_stacked at box _ _ _ (c.in-Some.child.0) _ _ _ kid.step c.loop-next.invariant.sums (sym c.is_passed.ensures.value ∙ w.if-not-is_passed.true) _ _
            (w.inside-is ∙ w.added-inside.ensures.value ∙ ap (λ height. cap (c.loop-next.inside + height)) (w.margin_units.ensures.value ∙ ap margin_height w.fresh_box.ensures.value))
            (w.steps-is ∙ w.fresh_box.ensures.ticks)
        | else-not-is_passed w ↦
            sums_passed at box _ _ _ (c.in-Some.child.0) _ _ _ kid.step c.loop-next.invariant.sums (sym c.is_passed.ensures.value ∙ w.if-not-is_passed.false) _ _ w.inside-is w.steps-is
      ];
    }

pub returns-clause-value : goal.returns-clause-value
returns-clause-value g t c =
    let at = layout_tree g.P.Styled.style g.P.Styled.kind c.args.tree.now.nodes in
    let forest = c.first_inner-next.ensures.forest in
    c.compute_box.ensures.value
    ∙ ap
    (λ item. computed item (seen_inputs c.args.inputs) (unsigned_abs (to_z w64 c.loop-next.inside)))
    (sym (item_is g.P.Styled.style g.P.Styled.kind c.args.tree.now.nodes (c.args.node.0) _ c.payload-2.ensures.value))
    ∙ ap (computed ((at (c.args.node.0)).item) (seen_inputs c.args.inputs)) (unsigned_of _ c.loop-next.invariant.sums.capped)
    ∙ box_done at (linked g.P.Styled.style g.P.Styled.kind forest) (shallow g.P.Styled.style g.P.Styled.kind forest) (seen_inputs c.args.inputs) (seen_inputs c.child_inputs-inner.result) (c.args.node.0)
    (c.child_inputs-inner.ensures.value ∙ ap (λ item. child_inputs item (seen_inputs c.args.inputs)) (sym (item_is g.P.Styled.style g.P.Styled.kind c.args.tree.now.nodes (c.args.node.0) _ c.payload.ensures.value)))
    _ _ _ _ c.loop-next.invariant.sums (rest_none _ _ c.in_default.is)

pub returns-clause-ticks : goal.returns-clause-ticks
returns-clause-ticks g t c =
    let at = layout_tree g.P.Styled.style g.P.Styled.kind c.args.tree.now.nodes in
    let forest = c.first_inner-next.ensures.forest in
    c.compute_box.ensures.ticks
    ∙ steps_done at (linked g.P.Styled.style g.P.Styled.kind forest) (shallow g.P.Styled.style g.P.Styled.kind forest) (seen_inputs c.args.inputs) (seen_inputs c.child_inputs-inner.result) (c.args.node.0)
    (c.child_inputs-inner.ensures.value ∙ ap (λ item. child_inputs item (seen_inputs c.args.inputs)) (sym (item_is g.P.Styled.style g.P.Styled.kind c.args.tree.now.nodes (c.args.node.0) _ c.payload.ensures.value)))
    _ _ _ _ c.loop-next.invariant.sums (rest_none _ _ c.in_default.is)
