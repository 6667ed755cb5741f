use Rattle.std.proofs.Common.{◌≡◌, ◌++◌, All, map, take}
use Rattle.element_tree.specs.declared.node.NodeId.{NodeId}
use Rattle.box_inspector.specs.Boxes.{box_line}
use Rattle.box_inspector.specs.Clips.{AreClips}
use Rattle.box_inspector.specs.Ranges.{BoxReaches}
use Rattle.box_inspector.proofs.pages.push_boxes.Given as goal

abbrev pub invariant-loop-node : goal.invariant-loop-node
invariant-loop-node l = record {
  pushed : l.lines.items ≡ l.fn.lines.items ++ map (λ (node : NodeId). box_line l.page.world (node.0)) (take l.node-index l.nodes);
  reach : All BoxReaches l.lines.items;
  clips : AreClips l.shown l.clips.inside;
}
