use Rattle.std.proofs.Common.{◌≡◌, ◌≤◌, ◌-◌, Some, length}
use Rattle.layout_model.specs.Boxes.{Inputs, kids_of, box_in, child_inputs}
use Rattle.layout_model.specs.Points.{larger}
use Rattle.layout_model.specs.Views.{View, inputs_in_view}
use Rattle.element_tree.specs.Forest.{depth, most_levels}
use Rattle.block_layout.specs.Around.{seen_extent}
use Rattle.block_layout.specs.Far.{open_kids, far_in}
use Rattle.block_layout.specs.Filling.{IsUnpositioned}
use Rattle.block_layout.specs.Held.{HoldsBoxes}
use Rattle.block_layout.specs.Trees.{layout_tree}
use Rattle.block_layout.proofs.Kids.{rest, IsAmong}
use Rattle.block_layout.proofs.Reaching.{far_among}
use Rattle.block_layout.proofs.reach.+far_inside.Given as goal

abbrev pub decreases-far_inside : goal.decreases-far_inside
decreases-far_inside g l = most_levels - depth l.tree.now.nodes (l.node.0)

abbrev pub invariant-loop-next : goal.invariant-loop-next
invariant-loop-next g l = record {
  among : IsAmong (open_kids l.closed (kids_of (layout_tree g.P.Styled.style g.P.Styled.kind l.tree.nodes (l.fn.node.0)))) l.next;
  capped : l.above ≤ 2147483647;
  far : IsUnpositioned (layout_tree g.P.Styled.style g.P.Styled.kind l.tree.nodes) (l.fn.node.0)
      → (document : View) (inputs : Inputs)
      → inputs_in_view (layout_tree g.P.Styled.style g.P.Styled.kind l.tree.nodes) document (l.fn.node.0) ≡ Some inputs
      → HoldsBoxes (layout_tree g.P.Styled.style g.P.Styled.kind l.tree.nodes) document (l.fn.node.0) (g.B.Boxes.held l.boxes)
      → l.own ≡ box_in (layout_tree g.P.Styled.style g.P.Styled.kind l.tree.nodes) inputs (l.fn.node.0)
      → larger
      (seen_extent l.far)
      (far_among
      (layout_tree g.P.Styled.style g.P.Styled.kind l.tree.nodes)
      ((layout_tree g.P.Styled.style g.P.Styled.kind l.tree.nodes (l.fn.node.0)).item)
      inputs
      (child_inputs ((layout_tree g.P.Styled.style g.P.Styled.kind l.tree.nodes (l.fn.node.0)).item) inputs)
      (seen_extent l.corner)
      l.above
      (rest l.next (open_kids l.closed (kids_of (layout_tree g.P.Styled.style g.P.Styled.kind l.tree.nodes (l.fn.node.0))))))
      ≡ far_in (layout_tree g.P.Styled.style g.P.Styled.kind l.tree.nodes) (l.fn.node.0) inputs (seen_extent l.corner) (open_kids l.closed (kids_of (layout_tree g.P.Styled.style g.P.Styled.kind l.tree.nodes (l.fn.node.0))));
}

abbrev pub decreases-loop-next : goal.decreases-loop-next
decreases-loop-next g l = length (rest l.next (open_kids l.closed (kids_of (layout_tree g.P.Styled.style g.P.Styled.kind l.tree.nodes (l.fn.node.0)))))
