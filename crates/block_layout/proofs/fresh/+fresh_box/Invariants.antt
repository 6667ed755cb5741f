use Rattle.std.proofs.Common.{◌-◌, length}
use Rattle.layout_model.specs.Boxes.{kids_of, box_in}
use Rattle.element_tree.specs.Forest.{depth, most_levels}
use Rattle.block_layout.specs.Seen.{seen_inputs}
use Rattle.block_layout.specs.Trees.{layout_tree}
use Rattle.block_layout.proofs.Kids.{rest, IsAmong, Sums}
use Rattle.block_layout.proofs.fresh.+fresh_box.Given as goal

abbrev pub decreases-fresh_box : goal.decreases-fresh_box
decreases-fresh_box g l = most_levels - depth l.tree.now.nodes (l.node.0)

abbrev pub invariant-loop-next : goal.invariant-loop-next
invariant-loop-next g l = record {
  among : IsAmong (kids_of (layout_tree g.P.Styled.style g.P.Styled.kind l.tree.nodes (l.fn.node.0))) l.next;
  sums : Sums
      (layout_tree g.P.Styled.style g.P.Styled.kind l.tree.nodes)
      (box_in (layout_tree g.P.Styled.style g.P.Styled.kind l.tree.nodes) (seen_inputs l.inner))
      (kids_of (layout_tree g.P.Styled.style g.P.Styled.kind l.tree.nodes (l.fn.node.0)))
      (rest l.next (kids_of (layout_tree g.P.Styled.style g.P.Styled.kind l.tree.nodes (l.fn.node.0))))
      l.inside
      l.fn.steps
      l.steps;
}

abbrev pub decreases-loop-next : goal.decreases-loop-next
decreases-loop-next g l = length (rest l.next (kids_of (layout_tree g.P.Styled.style g.P.Styled.kind l.tree.nodes (l.fn.node.0))))
