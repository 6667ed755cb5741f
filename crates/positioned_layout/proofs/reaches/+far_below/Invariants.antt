use Rattle.std.proofs.Common.{◌≡◌, ◌-◌, ℕ, Bool, Some, true, length, option_map}
use Rattle.std.specs.Prelude.{is_some}
use Rattle.layout_model.specs.Nodes.{Node, Holder}
use Rattle.layout_model.specs.Views.{View, inputs_in_view}
use Rattle.element_tree.specs.Forest.{has, children_of, rest_from, depth, most_levels}
use Rattle.element_tree.specs.Links.{number}
use Rattle.positioned_layout.specs.declared.reaches.Farthest.{Farthest}
use Rattle.positioned_layout.specs.Measured.{AreMeasuresOf, IsMeasuredAt}
use Rattle.positioned_layout.specs.Seen.{seen_measure}
use Rattle.positioned_layout.specs.Trees.{AreNodesOf}
use Rattle.positioned_layout.specs.Walked.{IsFar, IsReachedIn, IsOpenIn, IsAround, IsRoom}
use Rattle.positioned_layout.proofs.reaches.+far_below.Given as goal

abbrev pub decreases-far_below : goal.decreases-far_below
decreases-far_below g l = most_levels - depth l.tree.now.nodes (l.node.0)

abbrev pub invariant-loop-next : goal.invariant-loop-next
invariant-loop-next g l = record {
  among : (c : ℕ) → option_map number l.next ≡ Some c → has (children_of l.tree.nodes (l.fn.node.0)) c ≡ true;
  corner : l.farthest.corner ≡ l.fn.far.corner;
  room : IsRoom l.farthest;
  far : (at : ℕ → Node) (view : View) (opens : Holder → Bool) → AreNodesOf g.P.Placed.placed l.tree.nodes at →
      AreMeasuresOf at view (g.M.Measures.measured l.measures) → IsOpenIn at (l.fn.node.0) opens →
      is_some (inputs_in_view at view (l.fn.node.0)) ≡ true → IsMeasuredAt at view (l.fn.node.0) (seen_measure l.outer) →
      IsAround at view (l.fn.node.0) opens l.fn.around → (last : Farthest) →
      IsFar at view (IsReachedIn at view opens (rest_from (option_map number l.next) (children_of l.tree.nodes (l.fn.node.0)))) l.farthest last →
      IsFar at view (IsReachedIn at view opens (children_of l.tree.nodes (l.fn.node.0))) l.fn.far last;
}

abbrev pub decreases-loop-next : goal.decreases-loop-next
decreases-loop-next g l = length (rest_from (option_map number l.next) (children_of l.tree.nodes (l.fn.node.0)))
