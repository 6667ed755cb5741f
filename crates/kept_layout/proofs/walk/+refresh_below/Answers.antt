use Rattle.std.proofs.Common.{◌≡◌, ◌+◌, ◌++◌, ◌∷◌, [], ◌||◌, suc, length, refl, ap, sym, ◌∙◌, arith}
use Rattle.std.specs.Prelude.{unsigned_abs}
use mir.Syntax.{w64}
use mir.Val.{to_z}
use Rattle.px_units.specs.Lengths.{cap}
use Rattle.layout_model.specs.Boxes.{computed, child_inputs, kids_of}
use Rattle.element_tree.proofs.Facts.{child_in_range}
use Rattle.element_tree.proofs.Levels.{kid_depth, low_enough}
use Rattle.block_layout.specs.Seen.{seen_inputs}
use Rattle.block_layout.specs.Trees.{layout_tree}
use Rattle.block_layout.proofs.Ancestors.{in_self}
use Rattle.block_layout.proofs.Forests.{shallow}
use Rattle.block_layout.proofs.Kids.{rest, among_first, kid_here, met}
use Rattle.block_layout.proofs.Nodes.{item_is}
use Rattle.block_layout.proofs.Parts.{unsigned_of}
use Rattle.kept_layout.specs.Slots.{slot_in}
use Rattle.kept_layout.specs.Sound.{outside_found}
use Rattle.kept_layout.proofs.Going.{refreshed_already, refreshed_as, going_begins, going_hidden, going_moved, going_like, going_shown, going_ends}
use Rattle.kept_layout.proofs.Lists.{passed_first, passed_some, passed_none, passed_next}
use Rattle.kept_layout.proofs.Shapes.{shaped, next_kid}
use Rattle.kept_layout.proofs.walk.+refresh_below.Goals as goal
use Rattle.kept_layout.proofs.walk.+refresh_below.Goals.{then-not-is_hidden+then-is_in_flow+then-outside, then-not-is_hidden+then-is_in_flow+else-outside, then-not-is_hidden+else-is_in_flow, else-not-is_hidden}

pub returns-then-not-is_due : goal.returns-then-not-is_due
returns-then-not-is_due g t c =
    refreshed_already (layout_tree g.P.Styled.style g.P.Styled.kind c.args.tree.now.nodes) (c.args.node.0) (seen_inputs c.args.inputs) (length c.args.slots.now) (slot_in c.args.slots.now) c.args.steps.now
    (sym c.is_due.ensures ∙ c.if-not-is_due.true)

pub loop-next-init : goal.loop-next-init
loop-next-init g t c =
    let at = layout_tree g.P.Styled.style g.P.Styled.kind c.args.tree.now.nodes in
    record {
      among = among_first _ _ c.first_inner-next.ensures.value;
      going = going_begins at (shaped g.P.Styled.style g.P.Styled.kind c.first_inner-next.ensures.forest) (shallow g.P.Styled.style g.P.Styled.kind c.first_inner-next.ensures.forest) (c.args.node.0) (seen_inputs c.args.inputs) (length c.args.slots.now)
          (slot_in c.args.slots.now) c.args.steps.now (slot_in c.set_mark.new.slots)
          (λ slots. c.set_mark.ensures.own (slots (c.args.node.0) (in_self at (c.args.node.0)))) c.set_mark.ensures.others
          (sym c.is_due.ensures ∙ c.if-not-is_due.false) _ (passed_first (kids_of (at (c.args.node.0))) _ c.first_inner-next.ensures.value);
    }

pub is_hidden-requires : goal.is_hidden-requires
is_hidden-requires g t c =
    let forest = c.first_inner-next.ensures.forest in
    child_in_range forest (c.args.node.0) (c.in-Some.child.0)
    (kid_here g.P.Styled.style g.P.Styled.kind forest (c.args.node.0) c.loop-next.next c.in-Some.child c.in-Some.is c.loop-next.invariant.among)

pub refresh_below-requires : goal.refresh_below-requires
refresh_below-requires g t c κs within =
    let forest = c.first_inner-next.ensures.forest in
    let here = kid_here g.P.Styled.style g.P.Styled.kind forest (c.args.node.0) c.loop-next.next c.in-Some.child c.in-Some.is c.loop-next.invariant.among in
    let deeper = kid_depth forest (c.args.node.0) (c.in-Some.child.0) here in
    let low = low_enough forest (c.in-Some.child.0) in
    let inside = child_in_range forest (c.args.node.0) (c.in-Some.child.0) here in
    (omega arith, (within.0, (within.1, inside)))

pub loop-next-smaller : goal.loop-next-smaller
loop-next-smaller g t c =
    let kid = met g.P.Styled.style g.P.Styled.kind c.first_inner-next.ensures.forest (c.args.node.0) c.loop-next.next c.in-Some.child c.in-Some.is c.loop-next.invariant.among c.next_sibling-next.result c.next_sibling-next.ensures.value in
    let shorter : length (rest c.loop-next.next (kids_of (layout_tree g.P.Styled.style g.P.Styled.kind c.args.tree.now.nodes (c.args.node.0))))
    ≡ suc (length (rest c.next_sibling-next.result (kids_of (layout_tree g.P.Styled.style g.P.Styled.kind c.args.tree.now.nodes (c.args.node.0))))) = ap length kid.step in
    omega arith

pub loop-next-preserved : goal.loop-next-preserved
loop-next-preserved g t c =
    let at = layout_tree g.P.Styled.style g.P.Styled.kind c.args.tree.now.nodes in
    let forest = c.first_inner-next.ensures.forest in
    let shape = shaped g.P.Styled.style g.P.Styled.kind forest in
    let short = shallow g.P.Styled.style g.P.Styled.kind forest in
    let node = c.args.node.0 in
    let child = c.in-Some.child.0 in
    let kids = kids_of (at node) in
    let kid = met g.P.Styled.style g.P.Styled.kind forest node c.loop-next.next c.in-Some.child c.in-Some.is c.loop-next.invariant.among c.next_sibling-next.result c.next_sibling-next.ensures.value in
    let ahead = passed_some kids c.loop-next.next c.in-Some.child c.in-Some.is in
    let longer = passed_next kids c.next_sibling-next.result child (shape.once node) kid.here (next_kid g.P.Styled.style g.P.Styled.kind forest node child kid.here c.next_sibling-next.result c.next_sibling-next.ensures.value) in
    let inner = c.child_inputs-inner.ensures.value ∙ ap (λ item. child_inputs item (seen_inputs c.args.inputs)) (sym (item_is g.P.Styled.style g.P.Styled.kind c.args.tree.now.nodes node _ c.payload.ensures.value)) in
    record {
      among = kid.among;
      going = elim c.if-not-is_hidden.branch [
        | then-not-is_hidden+then-is_in_flow+then-outside w ↦
            going_like at node (seen_inputs c.args.inputs) (length c.args.slots.now) (slot_in c.args.slots.now) _ _ _ _ _ _ _ c.args.steps.now _ _ (ap slot_in w.slots-is) refl refl refl
            (going_shown at shape short node (seen_inputs c.args.inputs) (length c.args.slots.now) (slot_in c.args.slots.now) c.args.steps.now child kid.here (sym c.is_hidden.ensures.value ∙ w.if-not-is_hidden.true)
            (slot_in c.loop-next.slots) (slot_in w.set_above.new.slots) _ _ c.loop-next.above c.loop-next.outside c.loop-next.steps ahead longer
            (λ low. w.set_above.ensures.own (omega arith)) w.set_above.ensures.others c.loop-next.invariant.going
            (sym w.is_in_flow.ensures ∙ w.if-is_in_flow.true) (slot_in w.refresh_below.new.slots) c.if-not-is_hidden.above c.if-not-is_hidden.outside c.if-not-is_hidden.steps
            (refreshed_as at child _ _ _ _ _ _ _ _ _ inner (omega arith) w.steps-is w.refresh_below.ensures)
            (w.above-is ∙ w.added-above.ensures.value ∙ ap (λ h. cap (c.loop-next.above + h)) w.height_held.ensures.value)
            (w.outside-is ∙ w.if-outside.true ∙ sym (ap (λ b. b || outside_found (slot_in w.refresh_below.new.slots child).found) w.if-outside.true)))
        | then-not-is_hidden+then-is_in_flow+else-outside w ↦
            going_like at node (seen_inputs c.args.inputs) (length c.args.slots.now) (slot_in c.args.slots.now) _ _ _ _ _ _ _ c.args.steps.now _ _ (ap slot_in w.slots-is) refl refl refl
            (going_shown at shape short node (seen_inputs c.args.inputs) (length c.args.slots.now) (slot_in c.args.slots.now) c.args.steps.now child kid.here (sym c.is_hidden.ensures.value ∙ w.if-not-is_hidden.true)
            (slot_in c.loop-next.slots) (slot_in w.set_above.new.slots) _ _ c.loop-next.above c.loop-next.outside c.loop-next.steps ahead longer
            (λ low. w.set_above.ensures.own (omega arith)) w.set_above.ensures.others c.loop-next.invariant.going
            (sym w.is_in_flow.ensures ∙ w.if-is_in_flow.true) (slot_in w.refresh_below.new.slots) c.if-not-is_hidden.above c.if-not-is_hidden.outside c.if-not-is_hidden.steps
            (refreshed_as at child _ _ _ _ _ _ _ _ _ inner (omega arith) w.steps-is w.refresh_below.ensures)
            (w.above-is ∙ w.added-above.ensures.value ∙ ap (λ h. cap (c.loop-next.above + h)) w.height_held.ensures.value)
            (w.outside-is ∙ w.has_outside-outside.ensures ∙ sym (ap (λ b. b || outside_found (slot_in w.refresh_below.new.slots child).found) w.if-outside.false)))
        | then-not-is_hidden+else-is_in_flow w ↦
            going_like at node (seen_inputs c.args.inputs) (length c.args.slots.now) (slot_in c.args.slots.now) _ _ _ _ _ _ _ c.args.steps.now _ _ (ap slot_in w.slots-is) refl refl w.steps-is
            (going_moved at shape short node (seen_inputs c.args.inputs) (length c.args.slots.now) (slot_in c.args.slots.now) c.args.steps.now child kid.here (sym c.is_hidden.ensures.value ∙ w.if-not-is_hidden.true)
            (slot_in c.loop-next.slots) (slot_in w.set_above.new.slots) _ _ c.loop-next.above c.loop-next.outside c.loop-next.steps ahead longer
            (λ low. w.set_above.ensures.own (omega arith)) w.set_above.ensures.others c.loop-next.invariant.going
            (sym w.is_in_flow.ensures ∙ w.if-is_in_flow.false) c.if-not-is_hidden.above w.above-is c.if-not-is_hidden.outside w.outside-is)
        | else-not-is_hidden w ↦
            going_like at node (seen_inputs c.args.inputs) (length c.args.slots.now) (slot_in c.args.slots.now) _ _ _ _ _ _ _ c.args.steps.now _ _ (ap slot_in w.slots-is) w.above-is w.outside-is w.steps-is
            (going_hidden at shape short node (seen_inputs c.args.inputs) (length c.args.slots.now) (slot_in c.args.slots.now) c.args.steps.now (slot_in c.loop-next.slots)
            _ _ child c.loop-next.above c.loop-next.outside c.loop-next.steps (longer ∙ ap (λ ys. ys ++ child ∷ []) (sym ahead)) (sym c.is_hidden.ensures.value ∙ w.if-not-is_hidden.false) c.loop-next.invariant.going)
      ];
    }

pub is_in_flow-requires : goal.is_in_flow-requires
is_in_flow-requires g t c =
    let forest = c.first_inner-next.ensures.forest in
    child_in_range forest (c.args.node.0) (c.in-Some.child.0)
    (kid_here g.P.Styled.style g.P.Styled.kind forest (c.args.node.0) c.loop-next.next c.in-Some.child c.in-Some.is c.loop-next.invariant.among)

pub returns : goal.returns
returns g t c =
    let at = layout_tree g.P.Styled.style g.P.Styled.kind c.args.tree.now.nodes in
    let shape = shaped g.P.Styled.style g.P.Styled.kind c.first_inner-next.ensures.forest in
    let node = c.args.node.0 in
    going_ends at shape (shallow g.P.Styled.style g.P.Styled.kind c.first_inner-next.ensures.forest) node (seen_inputs c.args.inputs) (length c.args.slots.now) (slot_in c.args.slots.now) c.args.steps.now
    (slot_in c.loop-next.slots) (slot_in c.hold.new.slots) c.loop-next.above c.loop-next.outside c.loop-next.steps _ _ c.args.inputs refl
    (λ low. c.hold.ensures.own (omega arith)) c.hold.ensures.others
    (c.compute_box-own.ensures.value
    ∙ ap
    (λ item. computed item (seen_inputs c.args.inputs) (unsigned_abs (to_z w64 c.loop-next.above)))
    (sym (item_is g.P.Styled.style g.P.Styled.kind c.args.tree.now.nodes node _ c.payload-2.ensures.value))
    ∙ ap (computed ((at node).item) (seen_inputs c.args.inputs)) (unsigned_of _ c.loop-next.invariant.going.low))
    c.compute_box-own.ensures.ticks _ (passed_none (kids_of (at node)) c.loop-next.next c.in_default.is) c.loop-next.invariant.going
