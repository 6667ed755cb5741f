use Rattle.std.proofs.Common.{◌-◌, length}
use Rattle.layout_model.specs.Boxes.{kids_of}
use Rattle.element_tree.specs.Forest.{depth, most_levels}
use Rattle.block_layout.specs.Seen.{seen_inputs}
use Rattle.block_layout.specs.Trees.{layout_tree}
use Rattle.block_layout.proofs.Kids.{rest, IsAmong}
use Rattle.kept_layout.specs.Slots.{slot_in}
use Rattle.kept_layout.proofs.Going.{Going}
use Rattle.kept_layout.proofs.Lists.{passed}
use Rattle.kept_layout.proofs.walk.+refresh_below.Given as goal

abbrev pub decreases-refresh_below : goal.decreases-refresh_below
decreases-refresh_below g l = most_levels - depth l.tree.now.nodes (l.node.0)

abbrev pub invariant-loop-next : goal.invariant-loop-next
invariant-loop-next g l = record {
  among : IsAmong (kids_of (layout_tree g.P.Styled.style g.P.Styled.kind l.tree.nodes (l.fn.node.0))) l.next;
  going : Going
      (layout_tree g.P.Styled.style g.P.Styled.kind l.tree.nodes)
      (l.fn.node.0)
      (seen_inputs l.inputs)
      (length l.fn.slots)
      (slot_in l.fn.slots)
      (slot_in l.slots)
      (passed l.next (kids_of (layout_tree g.P.Styled.style g.P.Styled.kind l.tree.nodes (l.fn.node.0))))
      l.above
      l.outside
      l.fn.steps
      l.steps;
}

abbrev pub decreases-loop-next : goal.decreases-loop-next
decreases-loop-next g l = length (rest l.next (kids_of (layout_tree g.P.Styled.style g.P.Styled.kind l.tree.nodes (l.fn.node.0))))
