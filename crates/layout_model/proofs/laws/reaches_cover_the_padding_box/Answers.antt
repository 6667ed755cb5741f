use Rattle.std.specs.Prelude.{pos}
use Rattle.layout_model.specs.Boxes.{box_in, padding_size}
use Rattle.layout_model.specs.Points.{moved}
use Rattle.layout_model.specs.Views.{view_size}
use Rattle.layout_model.specs.FlatPlaces.{flat_place, border_corner}
use Rattle.layout_model.specs.Reach.{reached_by, reached_by_view}
use Rattle.layout_model.proofs.Farthest.{size_within}
use Rattle.layout_model.proofs.Reaches.{reach_is, view_is, capped_order}
use Rattle.layout_model.proofs.laws.reaches_cover_the_padding_box.Goals as goal

pub returns-clause-element : goal.returns-clause-element
returns-clause-element c at view inputs n is =
    capped_order _ _ _ (size_within at view (moved (flat_place at view n) (border_corner ((at n).item))) (padding_size (box_in at inputs n)) (reached_by at view n)) (reach_is at view inputs n is)

pub returns-clause-viewport : goal.returns-clause-viewport
returns-clause-viewport c at view =
    capped_order _ _ _ (size_within at view (pos 0, pos 0) (view_size view) (reached_by_view at view)) (view_is at view)
