use Rattle.std.proofs.Common.{All, subst, sym, arith}
use Rattle.std.proofs.lemmas.List.Elements.{All-push}
use Rattle.element_tree.specs.declared.node.NodeId.{NodeId}
use Rattle.box_inspector.specs.Boxes.{box_line}
use Rattle.box_inspector.specs.Ranges.{BoxReaches}
use Rattle.box_inspector.proofs.Told.{one_more}
use Rattle.box_inspector.proofs.pages.push_boxes.Goals as goal

pub loop-node-preserved : goal.loop-node-preserved
loop-node-preserved c = record {
  pushed = one_more (λ (node : NodeId). box_line c.args.page.now.world (node.0)) c.args.nodes.now c.loop-node.node-index _ _ _ _ c.in_ok-line.line
      (omega arith) c.in_ok-line.ensures.value c.loop-node.invariant.pushed c.in_ok-push.ensures.items;
  reach = subst (All BoxReaches) (sym c.in_ok-push.ensures.items) (All-push BoxReaches c.loop-node.lines.items c.in_ok-line.line c.loop-node.invariant.reach c.in_ok-line.ensures.reach);
  clips = c.box_line.ensures.clips;
}
