use Rattle.std.proofs.Common.{◌≡◌, ◌<◌, length, option_map}
use Rattle.std.specs.Prelude.{is_some}
use Rattle.layout_model.specs.Views.{View, inputs_in_view}
use Rattle.element_tree.specs.Forest.{depth}
use Rattle.element_tree.specs.Links.{number}
use Rattle.block_layout.specs.Trees.{layout_tree}
use Rattle.page_boxes.proofs.climb.is_boxed.Given as goal

abbrev pub invariant-loop-parent : goal.invariant-loop-parent
invariant-loop-parent g l = record {
  inside : l.at.0 < length l.tree.nodes;
  same : (view : View) → view.root ≡ option_map number l.root
      → is_some (inputs_in_view (layout_tree g.P.Styled.style g.P.Styled.kind l.tree.nodes) view (l.at.0)) ≡ is_some (inputs_in_view (layout_tree g.P.Styled.style g.P.Styled.kind l.tree.nodes) view (l.fn.node.0));
}

abbrev pub decreases-loop-parent : goal.decreases-loop-parent
decreases-loop-parent g l = depth l.tree.nodes (l.at.0)
