use Rattle.std.proofs.Common.{◌-◌, length}
use Rattle.layout_model.specs.Boxes.{kids_of}
use Rattle.element_tree.specs.Forest.{depth, most_levels}
use Rattle.block_layout.specs.Trees.{layout_tree}
use Rattle.block_layout.proofs.Kids.{rest, IsAmong}
use Rattle.kept_layout.specs.Slots.{slot_in}
use Rattle.kept_layout.proofs.Inside.{Inside}
use Rattle.kept_layout.proofs.Lists.{passed}
use Rattle.kept_layout.proofs.walk.+refresh_inside.Given as goal

abbrev pub decreases-refresh_inside : goal.decreases-refresh_inside
decreases-refresh_inside g l = most_levels - depth l.tree.now.nodes (l.node.0)

abbrev pub invariant-loop-next : goal.invariant-loop-next
invariant-loop-next g l = record {
  among : IsAmong (kids_of (layout_tree g.P.Styled.style g.P.Styled.kind l.tree.nodes (l.fn.node.0))) l.next;
  inside : Inside
      (layout_tree g.P.Styled.style g.P.Styled.kind l.tree.nodes)
      (l.fn.node.0)
      l.outside
      (length l.fn.slots)
      (slot_in l.fn.slots)
      (slot_in l.slots)
      (passed l.next (kids_of (layout_tree g.P.Styled.style g.P.Styled.kind l.tree.nodes (l.fn.node.0))))
      l.fn.steps
      l.steps;
}

abbrev pub decreases-loop-next : goal.decreases-loop-next
decreases-loop-next g l = length (rest l.next (kids_of (layout_tree g.P.Styled.style g.P.Styled.kind l.tree.nodes (l.fn.node.0))))
