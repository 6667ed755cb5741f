use Rattle.std.proofs.Common.{◌≡◌, filter, take}
use Rattle.element_tree.specs.declared.node.NodeId.{NodeId}
use Rattle.hit_test.specs.Clips.{AreClips}
use Rattle.hit_test.specs.Hits.{is_hit}
use Rattle.hit_test.proofs.among.hit_among.Given as goal

abbrev pub invariant-loop-node : goal.invariant-loop-node
invariant-loop-node l = record {
  found : l.found.items ≡ filter (λ (node : NodeId). is_hit l.shown l.at (node.0)) (take l.node-index l.nodes);
  clips : AreClips l.shown l.clips.inside;
}
