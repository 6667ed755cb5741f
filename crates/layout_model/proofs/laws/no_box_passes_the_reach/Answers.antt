use Rattle.std.proofs.Common.{◌≡◌, ap, ◌∙◌, arith}
use Rattle.std.proofs.lemmas.Int.{ints}
use Rattle.std.specs.Prelude.{ℤ, pos, ◌+ℤ◌, ◌-ℤ◌}
use Rattle.px_units.specs.Lengths.{at_least_zero}
use Rattle.layout_model.specs.Boxes.{box_in, border_width, border_height, padding_size}
use Rattle.layout_model.specs.Points.{moved}
use Rattle.layout_model.specs.Views.{view_size}
use Rattle.layout_model.specs.FlatPlaces.{flat_place, border_corner}
use Rattle.layout_model.specs.Reach.{edges_with, reached_by, reached_by_view}
use Rattle.layout_model.proofs.Farthest.{edges_within}
use Rattle.layout_model.proofs.Reaches.{reach_is, view_is, capped_order, reached, reached_in_view, edge_within}
use Rattle.layout_model.proofs.laws.no_box_passes_the_reach.Goals as goal

pub returns-clause-across : goal.returns-clause-across
returns-clause-across c at listed shallow view inputs below n d is found clipped small =
    let corner : ℤ × ℤ = moved (flat_place at view n) (border_corner ((at n).item)) in
    let all = capped_order _ _ _ (edges_within at view corner (padding_size (box_in at inputs n)) (reached_by at view n) d (reached at listed shallow view below n d found clipped)) (reach_is at view inputs n is) in
    edge_within _ _ _ (ap (λ i. (edges_with at view corner d i).0) found) (all.0) small

pub returns-clause-down : goal.returns-clause-down
returns-clause-down c at listed shallow view inputs below n d is found clipped small =
    let corner : ℤ × ℤ = moved (flat_place at view n) (border_corner ((at n).item)) in
    let all = capped_order _ _ _ (edges_within at view corner (padding_size (box_in at inputs n)) (reached_by at view n) d (reached at listed shallow view below n d found clipped)) (reach_is at view inputs n is) in
    edge_within _ _ _ (ap (λ i. (edges_with at view corner d i).1) found) (all.1) small

pub returns-clause-view_across : goal.returns-clause-view_across
returns-clause-view_across c at listed shallow view below d found clipped off small =
    let all = capped_order _ _ _ (edges_within at view (pos 0, pos 0) (view_size view) (reached_by_view at view) d (reached_in_view at listed shallow view below d found clipped off)) (view_is at view) in
    let same : (flat_place at view d).0 +ℤ pos (border_width (box_in at below d)) -ℤ pos 0 ≡ (flat_place at view d).0 +ℤ pos (border_width (box_in at below d)) = omega (arith, ints) in
    edge_within _ _ _ (ap (λ i. (edges_with at view (pos 0, pos 0) d i).0) found ∙ ap at_least_zero same) (all.0) small

pub returns-clause-view_down : goal.returns-clause-view_down
returns-clause-view_down c at listed shallow view below d found clipped off small =
    let all = capped_order _ _ _ (edges_within at view (pos 0, pos 0) (view_size view) (reached_by_view at view) d (reached_in_view at listed shallow view below d found clipped off)) (view_is at view) in
    let same : (flat_place at view d).1 +ℤ pos (border_height (box_in at below d)) -ℤ pos 0 ≡ (flat_place at view d).1 +ℤ pos (border_height (box_in at below d)) = omega (arith, ints) in
    edge_within _ _ _ (ap (λ i. (edges_with at view (pos 0, pos 0) d i).1) found ∙ ap at_least_zero same) (all.1) small
