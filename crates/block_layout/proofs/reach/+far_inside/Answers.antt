use Rattle.std.proofs.Common.{◌≡◌, ◌+◌, suc, length, ap, sym, ◌∙◌, arith}
use Rattle.px_units.specs.Lengths.{cap}
use Rattle.layout_model.specs.Boxes.{Inputs, kids_of, box_in, border_size, child_inputs, margin_height}
use Rattle.layout_model.specs.Points.{larger, plus}
use Rattle.block_layout.specs.Far.{open_kids}
use Rattle.element_tree.proofs.Facts.{child_in_range}
use Rattle.element_tree.proofs.Levels.{kid_depth, low_enough}
use Rattle.block_layout.specs.Around.{seen_extent}
use Rattle.block_layout.specs.Far.{far_in}
use Rattle.block_layout.specs.Trees.{layout_tree}
use Rattle.block_layout.proofs.Far.{larger_nothing, far_none, far_of}
use Rattle.block_layout.proofs.Forests.{linked, shallow}
use Rattle.block_layout.proofs.Kids.{rest, rest_none, open_kid, open_child, open_met}
use Rattle.block_layout.proofs.Reaching.{far_among, kid_below, kid_still, far_hidden, far_shown, kid_inputs, kid_holds, kid_box, kid_offset, some_same, shown_some, hidden_none}
use Rattle.block_layout.proofs.reach.+far_inside.Goals as goal
use Rattle.block_layout.proofs.reach.+far_inside.Goals.{in-Some-shown_box, in_default-shown_box}

pub shown_box-requires : goal.shown_box-requires
shown_box-requires g t c =
    let forest = c.first_open-next.ensures.forest in
    child_in_range forest (c.args.node.0) (c.in-Some.child.0)
    (open_child g.P.Styled.style g.P.Styled.kind forest (c.args.node.0) c.args.closed c.loop-next.next c.in-Some.child c.in-Some.is c.loop-next.invariant.among)

pub is_clipping-requires : goal.is_clipping-requires
is_clipping-requires g t c =
    let forest = c.first_open-next.ensures.forest in
    child_in_range forest (c.args.node.0) (c.in-Some.child.0)
    (open_child g.P.Styled.style g.P.Styled.kind forest (c.args.node.0) c.args.closed c.loop-next.next c.in-Some.child c.in-Some.is c.loop-next.invariant.among)

pub far_inside-deeper-requires : goal.far_inside-deeper-requires
far_inside-deeper-requires g t c κs within =
    let forest = c.first_open-next.ensures.forest in
    let here = open_child g.P.Styled.style g.P.Styled.kind forest (c.args.node.0) c.args.closed c.loop-next.next c.in-Some.child c.in-Some.is c.loop-next.invariant.among in
    let deeper = kid_depth forest (c.args.node.0) (c.in-Some.child.0) here in
    let low = low_enough forest (c.in-Some.child.0) in
    let inside = child_in_range forest (c.args.node.0) (c.in-Some.child.0) here in
    let across : c.plus-place.result.across ≡ c.args.corner.across + c.offset.result.across = ap (λ p. p.0) c.plus-place.ensures in
    let down : c.plus-place.result.down ≡ c.args.corner.down + c.offset.result.down = ap (λ p. p.1) c.plus-place.ensures in
    (omega arith, (within.0, (within.1, (inside, (omega arith, omega arith)))))

pub far_edge-requires-clause-across : goal.far_edge-requires-clause-across
far_edge-requires-clause-across g t c =
    let across : c.plus-place.result.across ≡ c.args.corner.across + c.offset.result.across = ap (λ p. p.0) c.plus-place.ensures in
    let forest = c.first_open-next.ensures.forest in
    let here = open_child g.P.Styled.style g.P.Styled.kind forest (c.args.node.0) c.args.closed c.loop-next.next c.in-Some.child c.in-Some.is c.loop-next.invariant.among in
    let deeper = kid_depth forest (c.args.node.0) (c.in-Some.child.0) here in
    let low = low_enough forest (c.in-Some.child.0) in
    omega arith

pub far_edge-requires-clause-down : goal.far_edge-requires-clause-down
far_edge-requires-clause-down g t c =
    let down : c.plus-place.result.down ≡ c.args.corner.down + c.offset.result.down = ap (λ p. p.1) c.plus-place.ensures in
    let forest = c.first_open-next.ensures.forest in
    let here = open_child g.P.Styled.style g.P.Styled.kind forest (c.args.node.0) c.args.closed c.loop-next.next c.in-Some.child c.in-Some.is c.loop-next.invariant.among in
    let deeper = kid_depth forest (c.args.node.0) (c.in-Some.child.0) here in
    let low = low_enough forest (c.in-Some.child.0) in
    omega arith

pub loop-next-smaller : goal.loop-next-smaller
loop-next-smaller g t c =
    let kid = open_met g.P.Styled.style g.P.Styled.kind c.first_open-next.ensures.forest (c.args.node.0) c.args.closed c.loop-next.next c.in-Some.child c.in-Some.is c.loop-next.invariant.among c.next_sibling-next.result c.next_sibling-next.ensures.value in
    let shorter : length (rest c.loop-next.next (open_kids c.args.closed (kids_of (layout_tree g.P.Styled.style g.P.Styled.kind c.args.tree.now.nodes (c.args.node.0)))))
    ≡ suc (length (rest c.next_sibling-next.result (open_kids c.args.closed (kids_of (layout_tree g.P.Styled.style g.P.Styled.kind c.args.tree.now.nodes (c.args.node.0)))))) = ap length kid.step in
    omega arith

pub loop-next-preserved : goal.loop-next-preserved
loop-next-preserved g t c =
    let at = layout_tree g.P.Styled.style g.P.Styled.kind c.args.tree.now.nodes in
    let forest = c.first_open-next.ensures.forest in
    let among = c.loop-next.invariant.among in
    let kid = open_met g.P.Styled.style g.P.Styled.kind forest (c.args.node.0) c.args.closed c.loop-next.next c.in-Some.child c.in-Some.is among c.next_sibling-next.result c.next_sibling-next.ensures.value in
    let one = open_kid g.P.Styled.style g.P.Styled.kind forest (c.args.node.0) c.args.closed c.loop-next.next c.in-Some.child c.in-Some.is among in
    let own_child = open_child g.P.Styled.style g.P.Styled.kind forest (c.args.node.0) c.args.closed c.loop-next.next c.in-Some.child c.in-Some.is among in
    record {
      among = kid.among;
      capped = elim c.match-shown_box.branch [ in-Some-shown_box w ↦ omega arith | in_default-shown_box w ↦ omega arith ];
      far = λ still document inputs found holds own.
          let item = (at (c.args.node.0)).item in
          let within : Inputs = child_inputs item inputs in
          let held = g.B.Boxes.held c.args.boxes.now in
          let there = kid_box g.P.Styled.style g.P.Styled.kind forest (c.args.node.0) still document inputs found held holds (c.in-Some.child.0) one own_child in
          let corner = seen_extent c.args.corner in
          let so_far = c.loop-next.invariant.far still document inputs found holds own in
          elim c.match-shown_box.branch [
            | in-Some-shown_box w ↦
                let parts = shown_some _ (held (c.in-Some.child.0)) w.in-Some-shown_box.inner (sym c.shown_box.ensures.value ∙ w.in-Some-shown_box.is) in
                let boxed : w.in-Some-shown_box.inner ≡ box_in at within (c.in-Some.child.0) = some_same _ _ (sym parts.1 ∙ there parts.0) in
                let place = seen_extent w.plus-place.result in
                ap
                (λ f. larger f (far_among at item inputs within corner c.match-shown_box.above (rest c.next_sibling-next.result (open_kids c.args.closed (kids_of (at (c.args.node.0)))))))
                (ap seen_extent w.far-is ∙ w.larger-far.ensures)
                ∙ far_shown at item inputs within corner _ _ (c.in-Some.child.0) c.loop-next.above kid.step (seen_extent c.loop-next.far) _ so_far (kid_still g.P.Styled.style g.P.Styled.kind forest (c.args.node.0) still document inputs found held holds (c.in-Some.child.0) one own_child) parts.0 place (seen_extent w.far_edge.result)
                (w.plus-place.ensures ∙ ap (plus corner) (w.offset.ensures.value ∙ kid_offset g.P.Styled.style g.P.Styled.kind forest (c.args.node.0) still document inputs found held holds (c.in-Some.child.0) one own_child c.args.own _ c.loop-next.above own boxed))
                (w.far_edge.ensures
                ∙ ap (λ b. larger (plus place (border_size b)) (seen_extent w.far_inside-deeper.result)) boxed
                ∙ ap
                (larger (plus place (border_size (box_in at within (c.in-Some.child.0)))))
                (w.far_inside-deeper.ensures (kid_below g.P.Styled.style g.P.Styled.kind forest (c.args.node.0) still document inputs found held holds (c.in-Some.child.0) one own_child) document within (kid_inputs g.P.Styled.style g.P.Styled.kind forest (c.args.node.0) still document inputs found held holds (c.in-Some.child.0) one own_child parts.0)
                (kid_holds g.P.Styled.style g.P.Styled.kind forest (c.args.node.0) still document inputs found held holds (c.in-Some.child.0) one own_child) boxed
                ∙ ap (λ closed. far_in at (c.in-Some.child.0) within place (open_kids closed (kids_of (at (c.in-Some.child.0))))) w.is_clipping.ensures.value)
                ∙ far_of at (linked g.P.Styled.style g.P.Styled.kind forest) (shallow g.P.Styled.style g.P.Styled.kind forest) within place (c.in-Some.child.0))
                c.match-shown_box.above
                (w.above-is ∙ w.capped-above.ensures.value ∙ ap (λ h. cap (c.loop-next.above + h)) (w.margin_units.ensures.value ∙ ap margin_height boxed))
            | in_default-shown_box w ↦
                let hidden = hidden_none _ (held (c.in-Some.child.0)) (box_in at within (c.in-Some.child.0)) (sym c.shown_box.ensures.value ∙ w.in_default-shown_box.is) there in
                ap
                (λ f. larger f (far_among at item inputs within corner c.match-shown_box.above (rest c.next_sibling-next.result (open_kids c.args.closed (kids_of (at (c.args.node.0)))))))
                (ap seen_extent w.far-is)
                ∙ ap
                (λ a. larger (seen_extent c.loop-next.far) (far_among at item inputs within corner a (rest c.next_sibling-next.result (open_kids c.args.closed (kids_of (at (c.args.node.0)))))))
                w.above-is
                ∙ far_hidden at item inputs within corner _ _ (c.in-Some.child.0) c.loop-next.above kid.step (seen_extent c.loop-next.far) _ so_far hidden
          ];
    }

pub returns : goal.returns
returns g t c still document inputs found holds own =
    let at = layout_tree g.P.Styled.style g.P.Styled.kind c.args.tree.now.nodes in
    let item = (at (c.args.node.0)).item in
    sym
    (ap (larger (seen_extent c.loop-next.far)) (far_none _ _ _ _ (rest_none _ _ c.in_default.is))
    ∙ larger_nothing (seen_extent c.loop-next.far))
    ∙ c.loop-next.invariant.far still document inputs found holds own
