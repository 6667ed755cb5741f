use Rattle.std.proofs.Common.{◌≡◌, ◌≤◌, ◌<◌, ◌+◌, ◌*◌, true, length}
use Rattle.std.specs.Prelude.{IfSome, is_some}
use Rattle.layout_model.specs.Nodes.{holders_of, is_on_screen}
use Rattle.layout_model.specs.Points.{plus, sum_points}
use Rattle.layout_model.specs.Views.{View, inputs_in_view}
use Rattle.layout_model.specs.Reach.{offset_in_force}
use Rattle.page_model.specs.PageBoxes.{stored_in}
use Rattle.element_tree.specs.Forest.{depth}
use Rattle.block_layout.specs.Trees.{layout_tree}
use Rattle.positioned_layout.specs.Seen.{seen_holder, IfElement}
use Rattle.kept_layout.specs.Measures.{IsSized}
use Rattle.kept_layout.proofs.Held.{elements_from, ends_from, levels_from}
use Rattle.page_boxes.specs.Fresh.{HoldsAll}
use Rattle.page_boxes.specs.Offsets.{AreInForce}
use Rattle.page_boxes.proofs.offsets.scrolled.Given as goal

abbrev pub invariant-loop-held : goal.invariant-loop-held
invariant-loop-held g l = record {
  within : IfElement l.held (λ element. element < length l.tree.nodes);
  across : l.shift.across + 2147483647 * levels_from l.tree.nodes l.held ≤ 2147483647 * depth l.tree.nodes (l.fn.node.0);
  down : l.shift.down + 2147483647 * levels_from l.tree.nodes l.held ≤ 2147483647 * depth l.tree.nodes (l.fn.node.0);
  boxed : (view : View) → is_some (inputs_in_view (layout_tree g.P.Styled.style g.P.Styled.kind l.tree.nodes) view (l.fn.node.0)) ≡ true
      → IfElement l.held (λ element. is_some (inputs_in_view (layout_tree g.P.Styled.style g.P.Styled.kind l.tree.nodes) view element) ≡ true);
  sums : (view : View) → IsSized view → HoldsAll (layout_tree g.P.Styled.style g.P.Styled.kind l.tree.nodes) view l.boxes
      → IfSome l.found (λ map. AreInForce (layout_tree g.P.Styled.style g.P.Styled.kind l.tree.nodes) (stored_in l.scrolls) view map.now)
      → is_some (inputs_in_view (layout_tree g.P.Styled.style g.P.Styled.kind l.tree.nodes) view (l.fn.node.0)) ≡ true
      → plus (l.shift.across, l.shift.down) (sum_points (offset_in_force (layout_tree g.P.Styled.style g.P.Styled.kind l.tree.nodes) (stored_in l.scrolls) view) (elements_from (layout_tree g.P.Styled.style g.P.Styled.kind l.tree.nodes) (seen_holder l.held)))
      ≡ sum_points (offset_in_force (layout_tree g.P.Styled.style g.P.Styled.kind l.tree.nodes) (stored_in l.scrolls) view) (holders_of (layout_tree g.P.Styled.style g.P.Styled.kind l.tree.nodes) (l.fn.node.0));
  ends : ends_from (layout_tree g.P.Styled.style g.P.Styled.kind l.tree.nodes) (seen_holder l.held) ≡ is_on_screen (layout_tree g.P.Styled.style g.P.Styled.kind l.tree.nodes) (l.fn.node.0);
}

abbrev pub decreases-loop-held : goal.decreases-loop-held
decreases-loop-held g l = levels_from l.tree.nodes l.held
