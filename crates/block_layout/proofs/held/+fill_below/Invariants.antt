use Rattle.std.proofs.Common.{◌≡◌, ◌≤◌, ◌-◌, ℕ, false, Option, option_map, length}
use Rattle.layout_model.specs.Boxes.{Inputs}
use Rattle.layout_model.specs.Nodes.{depth_of, is_in_path}
use Rattle.element_tree.specs.Forest.{depth, most_levels, children_of}
use Rattle.block_layout.specs.Filling.{IsUnpositioned, GoesDown, box_with}
use Rattle.block_layout.specs.Held.{held_in}
use Rattle.block_layout.specs.Seen.{seen_inputs}
use Rattle.block_layout.specs.Trees.{layout_tree}
use Rattle.block_layout.proofs.Filled.{Filled, AreHeld}
use Rattle.block_layout.proofs.Kids.{rest, IsAmong}
use Rattle.block_layout.proofs.held.+fill_below.Given as goal

abbrev pub decreases-fill_below : goal.decreases-fill_below
decreases-fill_below g l = most_levels - depth l.tree.now.nodes (l.node.0)

abbrev pub invariant-loop-next : goal.invariant-loop-next
invariant-loop-next g l = record {
  among : IsAmong (children_of l.tree.nodes (l.fn.node.0)) l.next;
  low : l.inside ≤ 2147483647;
  filled : IsUnpositioned (layout_tree g.P.Styled.style g.P.Styled.kind l.tree.nodes) (l.fn.node.0) → Filled
      (layout_tree g.P.Styled.style g.P.Styled.kind l.tree.nodes)
      (option_map seen_inputs l.within)
      (children_of l.tree.nodes (l.fn.node.0))
      (rest l.next (children_of l.tree.nodes (l.fn.node.0)))
      l.inside
      l.fn.steps
      l.steps;
  held : IsUnpositioned (layout_tree g.P.Styled.style g.P.Styled.kind l.tree.nodes) (l.fn.node.0)
      → (wanted : ℕ → Option Inputs)
      → GoesDown (layout_tree g.P.Styled.style g.P.Styled.kind l.tree.nodes) (depth_of (layout_tree g.P.Styled.style g.P.Styled.kind l.tree.nodes) (l.fn.node.0)) wanted
      → wanted (l.fn.node.0) ≡ option_map seen_inputs l.inputs
      → AreHeld
      (layout_tree g.P.Styled.style g.P.Styled.kind l.tree.nodes)
      (children_of l.tree.nodes (l.fn.node.0))
      (rest l.next (children_of l.tree.nodes (l.fn.node.0)))
      (held_in l.places)
      (λ n. box_with (layout_tree g.P.Styled.style g.P.Styled.kind l.tree.nodes) (wanted n) n)
      (length l.fn.places);
  others : (n : ℕ) → is_in_path (layout_tree g.P.Styled.style g.P.Styled.kind l.tree.nodes) (l.fn.node.0) n ≡ false → held_in l.places n ≡ held_in l.fn.places n;
}

abbrev pub decreases-loop-next : goal.decreases-loop-next
decreases-loop-next g l = length (rest l.next (children_of l.tree.nodes (l.fn.node.0)))
