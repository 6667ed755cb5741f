use Rattle.std.proofs.Common.{◌≡◌, ◌<◌, ℕ, Some, true, length, option_map}
use Rattle.std.specs.Prelude.{is_some, IfSome, ◌+ℤ◌}
use Rattle.layout_model.specs.Nodes.{Node, is_in_path}
use Rattle.layout_model.specs.Views.{View, inputs_in_view}
use Rattle.layout_model.specs.FlatPlaces.{flat_place}
use Rattle.element_tree.specs.Forest.{above, depth}
use Rattle.element_tree.specs.Links.{number}
use Rattle.positioned_layout.specs.declared.insets.Axis.{Axis}
use Rattle.positioned_layout.specs.Along.{part, place_of}
use Rattle.positioned_layout.specs.Measured.{AreMeasuresUp}
use Rattle.positioned_layout.specs.Seen.{seen_measure, IsMeasure, IsNear, IsWalked}
use Rattle.positioned_layout.specs.Trees.{AreNodesOf}
use Rattle.positioned_layout.proofs.places.walk.Given as goal

abbrev pub invariant-loop-next : goal.invariant-loop-next
invariant-loop-next g l = record {
  inside : (n : ℕ) → option_map number l.next ≡ Some n → n < length l.tree.nodes;
  measured : (n : ℕ) → option_map number l.next ≡ Some n → option_map seen_measure l.measured ≡ g.M.Measures.measured l.measures n;
  measure : IfSome l.measured IsMeasure;
  left : IsWalked (depth l.tree.nodes (l.fn.node.0)) (above (depth l.tree.nodes) (option_map number l.next)) l.left;
  top : IsWalked (depth l.tree.nodes (l.fn.node.0)) (above (depth l.tree.nodes) (option_map number l.next)) l.top;
  short : IsNear 65536 l.left × IsNear 65536 l.top;
  path : (at : ℕ → Node) (view : View) → AreNodesOf g.P.Placed.placed l.tree.nodes at → AreMeasuresUp at view (l.fn.node.0) (g.M.Measures.measured l.measures) →
      is_some (inputs_in_view at view (l.fn.node.0)) ≡ true →
      (n : ℕ) → option_map number l.next ≡ Some n → (is_in_path at n (l.fn.node.0) ≡ true) × (is_some (inputs_in_view at view n) ≡ true);
  value : (at : ℕ → Node) (view : View) → AreNodesOf g.P.Placed.placed l.tree.nodes at → AreMeasuresUp at view (l.fn.node.0) (g.M.Measures.measured l.measures) →
      is_some (inputs_in_view at view (l.fn.node.0)) ≡ true → (a : Axis) → IfSome l.fn.axis (λ only. a ≡ only) →
      part a (flat_place at view (l.fn.node.0)) ≡ part a (place_of (flat_place at view) (option_map number l.next)) +ℤ part a (l.left, l.top);
}

abbrev pub decreases-loop-next : goal.decreases-loop-next
decreases-loop-next g l = above (depth l.tree.nodes) (option_map number l.next)
