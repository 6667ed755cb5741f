use Rattle.std.proofs.Common.{◌≡◌, ◌<◌, ℕ, length, option_map}
use Rattle.layout_model.specs.Nodes.{is_in_path}
use Rattle.element_tree.specs.Forest.{depth, above}
use Rattle.element_tree.specs.Links.{number}
use Rattle.block_layout.specs.Trees.{layout_tree}
use Rattle.kept_layout.specs.Slots.{slot_in, marked_if}
use Rattle.kept_layout.proofs.Climbs.{above_in_path}
use Rattle.kept_layout.proofs.walk.mark_path.Given as goal

abbrev pub invariant-loop-up : goal.invariant-loop-up
invariant-loop-up g l =
    (m : ℕ) → m < length l.fn.slots
    → marked_if (above_in_path (layout_tree g.P.Styled.style g.P.Styled.kind l.tree.nodes) m (option_map number l.up)) (slot_in l.slots m)
    ≡ marked_if (is_in_path (layout_tree g.P.Styled.style g.P.Styled.kind l.tree.nodes) m (l.fn.node.0)) (slot_in l.fn.slots m)

abbrev pub decreases-loop-up : goal.decreases-loop-up
decreases-loop-up g l = above (depth l.tree.nodes) (option_map number l.up)
