use Rattle.std.proofs.Common.{◌≡◌, ◌<◌, length, true, Option, option_map, ap, sym, subst, ◌∙◌, arith}
use Rattle.layout_model.specs.Nodes.{is_in_path}
use Rattle.element_tree.specs.declared.node.NodeId.{NodeId}
use Rattle.element_tree.specs.Links.{number}
use Rattle.element_tree.proofs.Walks.{climb_falls}
use Rattle.block_layout.specs.Trees.{layout_tree}
use Rattle.kept_layout.specs.Slots.{slot_in, marked_if}
use Rattle.kept_layout.proofs.Climbs.{above_in_path, climbs_on, path_goes_up, marks_all}
use Rattle.kept_layout.proofs.Steady.{mended}
use Rattle.kept_layout.proofs.walk.mark_path.Goals as goal

pub loop-up-init : goal.loop-up-init
loop-up-init g c m low =
    climbs_on g.P.Styled.style g.P.Styled.kind c.parent-up.ensures.forest (c.args.node.0) m c.parent-up.result c.parent-up.ensures.value (slot_in c.args.slots.now) (slot_in c.set_mark.new.slots)
    (λ same. subst (λ k. k < length c.args.slots.now → slot_in c.set_mark.new.slots k ≡ marked_if true (slot_in c.args.slots.now k)) (sym same) c.set_mark.ensures.own low)
    (c.set_mark.ensures.others m)

pub loop-up-preserved : goal.loop-up-preserved
loop-up-preserved g c m low =
    let at = layout_tree g.P.Styled.style g.P.Styled.kind c.args.tree.now.nodes in
    climbs_on g.P.Styled.style g.P.Styled.kind c.parent-up.ensures.forest (c.in-Some.parent.0) m c.parent-up-in-Some.result c.parent-up-in-Some.ensures.value (slot_in c.loop-up.slots) (slot_in c.set_mark-in-Some.new.slots)
    (λ same. subst (λ k. k < length c.loop-up.slots → slot_in c.set_mark-in-Some.new.slots k ≡ marked_if true (slot_in c.loop-up.slots k)) (sym same) c.set_mark-in-Some.ensures.own (omega arith))
    (c.set_mark-in-Some.ensures.others m)
    ∙ sym (ap (λ (o : Option NodeId). marked_if (above_in_path at m (option_map number o)) (slot_in c.loop-up.slots m)) c.in-Some.is)
    ∙ c.loop-up.invariant m low

pub loop-up-smaller : goal.loop-up-smaller
loop-up-smaller g c = climb_falls c.args.tree.now.nodes (c.args.node.0) c.loop-up.up c.in-Some.parent c.in-Some.is c.parent-up.ensures.forest c.parent-up-in-Some.result c.parent-up-in-Some.ensures.value

pub returns-clause-marks : goal.returns-clause-marks
returns-clause-marks g c m low =
    let at = layout_tree g.P.Styled.style g.P.Styled.kind c.args.tree.now.nodes in
    sym (ap (λ (o : Option NodeId). marked_if (above_in_path at m (option_map number o)) (slot_in c.loop-up.slots m)) c.in_default.is) ∙ c.loop-up.invariant m low

pub returns-clause-mended : goal.returns-clause-mended
returns-clause-mended g c within others sound =
    let at = layout_tree g.P.Styled.style g.P.Styled.kind c.args.tree.now.nodes in
    mended at (slot_in c.args.slots.now) (slot_in c.loop-up.slots) (λ n. is_in_path at n (c.args.node.0)) others
    (λ p k kid inside. path_goes_up g.P.Styled.style g.P.Styled.kind c.parent-up.ensures.forest (c.args.node.0) p k kid inside)
    (marks_all c.args.slots.now c.loop-up.slots (λ n. is_in_path at n (c.args.node.0)) (omega arith) within (returns-clause-marks g c))
    sound
