use Rattle.std.proofs.Common.{◌≡◌, flat_map, take}
use Rattle.element_tree.specs.declared.node.NodeId.{NodeId}
use Rattle.page_model.specs.Names.{element_text}
use Rattle.script_replay.specs.Sights.{hit_text}
use Rattle.script_replay.proofs.sights.text_of_hits.Given as goal

abbrev pub invariant-loop-node : goal.invariant-loop-node
invariant-loop-node l = l.text.items ≡ flat_map (λ (node : NodeId). hit_text (element_text l.page.world.names (node.0))) (take l.node-index l.nodes)
