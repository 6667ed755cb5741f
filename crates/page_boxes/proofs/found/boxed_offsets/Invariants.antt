use Rattle.std.proofs.Common.{◌≤◌, length}
use Rattle.layout_model.specs.Views.{View}
use Rattle.page_model.specs.PageBoxes.{stored_in}
use Rattle.block_layout.specs.Trees.{layout_tree}
use Rattle.kept_layout.specs.Measures.{IsSized}
use Rattle.page_boxes.specs.Fresh.{HoldsAll}
use Rattle.page_boxes.specs.Offsets.{AreOffsets, AreInForce, AreScrolled}
use Rattle.page_boxes.proofs.found.boxed_offsets.Given as goal

abbrev pub invariant-loop-number : goal.invariant-loop-number
invariant-loop-number g l = record {
  value : (view : View) → IsSized view → HoldsAll (layout_tree g.P.Styled.style g.P.Styled.kind l.tree.nodes) view l.boxes
      → AreInForce (layout_tree g.P.Styled.style g.P.Styled.kind l.tree.nodes) (stored_in l.scrolls) view l.found;
  scrolled : AreScrolled l.number l.scrolls l.found;
  within : l.number ≤ length l.tree.nodes;
  range : AreOffsets l.found;
}
