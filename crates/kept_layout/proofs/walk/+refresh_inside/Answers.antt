use Rattle.std.proofs.Common.{◌≡◌, ◌++◌, ◌∷◌, [], suc, length, ap, sym, ◌∙◌, arith}
use Rattle.layout_model.specs.Boxes.{kids_of}
use Rattle.element_tree.proofs.Facts.{child_in_range}
use Rattle.element_tree.proofs.Levels.{kid_depth, low_enough}
use Rattle.block_layout.specs.Trees.{layout_tree}
use Rattle.block_layout.proofs.Forests.{linked, shallow}
use Rattle.block_layout.proofs.Kids.{rest, among_first, kid_here, met}
use Rattle.kept_layout.specs.Slots.{slot_in}
use Rattle.kept_layout.proofs.Inside.{inside_already, inside_begins, inside_hidden, inside_shown, inside_ends, inside_like, entered_as, inside_as}
use Rattle.kept_layout.proofs.Lists.{passed_first, passed_some, passed_none, passed_next}
use Rattle.kept_layout.proofs.Shapes.{shaped, next_kid}
use Rattle.kept_layout.proofs.walk.+refresh_inside.Goals as goal
use Rattle.kept_layout.proofs.walk.+refresh_inside.Goals.{then-not-is_hidden, else-not-is_hidden}

pub returns-then-not-has_outside : goal.returns-then-not-has_outside
returns-then-not-has_outside g t c =
    let at = layout_tree g.P.Styled.style g.P.Styled.kind c.args.tree.now.nodes in
    let forest = c.requires.forest in
    inside_already at (shaped g.P.Styled.style g.P.Styled.kind forest) (linked g.P.Styled.style g.P.Styled.kind forest) (shallow g.P.Styled.style g.P.Styled.kind forest)
    (c.args.node.0) c.args.outside (length c.args.slots.now) (slot_in c.args.slots.now) c.args.steps.now (sym c.has_outside.ensures ∙ c.if-not-has_outside.true)

pub loop-next-init : goal.loop-next-init
loop-next-init g t c =
    let at = layout_tree g.P.Styled.style g.P.Styled.kind c.args.tree.now.nodes in
    let forest = c.requires.forest in
    record {
      among = among_first _ _ c.first_inner-next.ensures.value;
      inside = inside_begins at (shaped g.P.Styled.style g.P.Styled.kind forest) (linked g.P.Styled.style g.P.Styled.kind forest) (shallow g.P.Styled.style g.P.Styled.kind forest)
          (c.args.node.0) c.args.outside (length c.args.slots.now) (slot_in c.args.slots.now) c.args.steps.now _
          (passed_first (kids_of (at (c.args.node.0))) _ c.first_inner-next.ensures.value);
    }

pub is_hidden-requires : goal.is_hidden-requires
is_hidden-requires g t c =
    let forest = c.requires.forest in
    child_in_range forest (c.args.node.0) (c.in-Some.child.0)
    (kid_here g.P.Styled.style g.P.Styled.kind forest (c.args.node.0) c.loop-next.next c.in-Some.child c.in-Some.is c.loop-next.invariant.among)

pub refresh_moved-requires : goal.refresh_moved-requires
refresh_moved-requires g t c =
    let forest = c.requires.forest in
    child_in_range forest (c.args.node.0) (c.in-Some.child.0)
    (kid_here g.P.Styled.style g.P.Styled.kind forest (c.args.node.0) c.loop-next.next c.in-Some.child c.in-Some.is c.loop-next.invariant.among)

pub brought_to-within-requires : goal.brought_to-within-requires
brought_to-within-requires g t c =
    let forest = c.requires.forest in
    child_in_range forest (c.args.node.0) (c.in-Some.child.0)
    (kid_here g.P.Styled.style g.P.Styled.kind forest (c.args.node.0) c.loop-next.next c.in-Some.child c.in-Some.is c.loop-next.invariant.among)

pub refresh_inside-requires : goal.refresh_inside-requires
refresh_inside-requires g t c κs within =
    let forest = c.requires.forest in
    let here = kid_here g.P.Styled.style g.P.Styled.kind forest (c.args.node.0) c.loop-next.next c.in-Some.child c.in-Some.is c.loop-next.invariant.among in
    let deeper = kid_depth forest (c.args.node.0) (c.in-Some.child.0) here in
    let low = low_enough forest (c.in-Some.child.0) in
    let inside = child_in_range forest (c.args.node.0) (c.in-Some.child.0) here in
    (omega arith, (within.0, (within.1, (inside, forest))))

pub loop-next-smaller : goal.loop-next-smaller
loop-next-smaller g t c =
    let kid = met g.P.Styled.style g.P.Styled.kind c.requires.forest (c.args.node.0) c.loop-next.next c.in-Some.child c.in-Some.is c.loop-next.invariant.among c.next_sibling-next.result c.next_sibling-next.ensures.value in
    let shorter : length (rest c.loop-next.next (kids_of (layout_tree g.P.Styled.style g.P.Styled.kind c.args.tree.now.nodes (c.args.node.0))))
    ≡ suc (length (rest c.next_sibling-next.result (kids_of (layout_tree g.P.Styled.style g.P.Styled.kind c.args.tree.now.nodes (c.args.node.0))))) = ap length kid.step in
    omega arith

pub loop-next-preserved : goal.loop-next-preserved
loop-next-preserved g t c =
    let at = layout_tree g.P.Styled.style g.P.Styled.kind c.args.tree.now.nodes in
    let forest = c.requires.forest in
    let shape = shaped g.P.Styled.style g.P.Styled.kind forest in
    let links = linked g.P.Styled.style g.P.Styled.kind forest in
    let short = shallow g.P.Styled.style g.P.Styled.kind forest in
    let node = c.args.node.0 in
    let child = c.in-Some.child.0 in
    let kids = kids_of (at node) in
    let kid = met g.P.Styled.style g.P.Styled.kind forest node c.loop-next.next c.in-Some.child c.in-Some.is c.loop-next.invariant.among c.next_sibling-next.result c.next_sibling-next.ensures.value in
    let ahead = passed_some kids c.loop-next.next c.in-Some.child c.in-Some.is in
    let longer = passed_next kids c.next_sibling-next.result child (shape.once node) kid.here (next_kid g.P.Styled.style g.P.Styled.kind forest node child kid.here c.next_sibling-next.result c.next_sibling-next.ensures.value) in
    record {
      among = kid.among;
      inside = elim c.if-not-is_hidden.branch [
        | then-not-is_hidden w ↦
            inside_like at node c.args.outside (length c.args.slots.now) (slot_in c.args.slots.now) _ _ _ c.args.steps.now _ _ (ap slot_in w.slots-is) w.steps-is
            (inside_shown at shape links short node c.args.outside (length c.args.slots.now) (slot_in c.args.slots.now) c.args.steps.now child kid.here (sym c.is_hidden.ensures.value ∙ w.if-not-is_hidden.true)
            (slot_in c.loop-next.slots) (slot_in w.refresh_moved.new.slots) (slot_in w.refresh_inside.new.slots) _ _ c.loop-next.steps w.refresh_moved.new.steps w.refresh_inside.new.steps ahead longer
            (entered_as at child c.args.outside _ _ _ _ _ _ (omega arith) w.refresh_moved.ensures) w.brought_to-within.result w.brought_to-within.ensures
            (inside_as at child w.brought_to-within.result _ _ _ _ _ _ (omega arith) w.refresh_inside.ensures)
            c.loop-next.invariant.inside)
        | else-not-is_hidden w ↦
            inside_like at node c.args.outside (length c.args.slots.now) (slot_in c.args.slots.now) _ _ _ c.args.steps.now _ _ (ap slot_in w.slots-is) w.steps-is
            (inside_hidden at shape links short node c.args.outside (length c.args.slots.now) (slot_in c.args.slots.now) c.args.steps.now (slot_in c.loop-next.slots)
            _ _ child c.loop-next.steps kid.here (longer ∙ ap (λ ys. ys ++ child ∷ []) (sym ahead)) (sym c.is_hidden.ensures.value ∙ w.if-not-is_hidden.false) c.loop-next.invariant.inside)
      ];
    }

pub returns : goal.returns
returns g t c =
    let at = layout_tree g.P.Styled.style g.P.Styled.kind c.args.tree.now.nodes in
    let forest = c.requires.forest in
    inside_ends at (shaped g.P.Styled.style g.P.Styled.kind forest) (linked g.P.Styled.style g.P.Styled.kind forest) (shallow g.P.Styled.style g.P.Styled.kind forest)
    (c.args.node.0) c.args.outside (length c.args.slots.now) (slot_in c.args.slots.now) c.args.steps.now (slot_in c.loop-next.slots) _ c.loop-next.steps
    (passed_none (kids_of (at (c.args.node.0))) c.loop-next.next c.in_default.is) c.loop-next.invariant.inside
