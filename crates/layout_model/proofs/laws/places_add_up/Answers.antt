use Rattle.std.proofs.Common.{false, ap, ◌∙◌, ◌∷◌}
use Rattle.layout_model.specs.Nodes.{element_of, is_screen, holders_of, is_on_screen}
use Rattle.layout_model.specs.Points.{plus, moved_back, sum_points}
use Rattle.layout_model.specs.FlatPlaces.{flat_place}
use Rattle.layout_model.specs.Reach.{offset_in_force}
use Rattle.layout_model.specs.Places.{view_scroll, place_in}
use Rattle.layout_model.proofs.Holders.{holders_of_held, on_screen_held, holders_of_unheld, on_screen_unheld}
use Rattle.layout_model.proofs.Sums.{held_on, held_by_view, unmoved}
use Rattle.layout_model.proofs.laws.places_add_up.Goals as goal

pub returns-clause-element : goal.returns-clause-element
unfolding place_in sum_points
returns-clause-element c at stored view shallow n h is =
    ap (λ above. moved_back (flat_place at view n) (plus (sum_points (offset_in_force at stored view) above) (view_scroll at view (is_on_screen at n)))) (holders_of_held at shallow n h is)
    ∙ ap (λ screen. moved_back (flat_place at view n) (plus (sum_points (offset_in_force at stored view) (h ∷ holders_of at h)) (view_scroll at view screen))) (on_screen_held at shallow n h is)
    ∙ held_on (flat_place at view n) (flat_place at view h) (offset_in_force at stored view h) (sum_points (offset_in_force at stored view) (holders_of at h)) (view_scroll at view (is_on_screen at h))

pub returns-clause-page : goal.returns-clause-page
unfolding place_in sum_points
returns-clause-page c at stored view n is =
    ap (λ above. moved_back (flat_place at view n) (plus (sum_points (offset_in_force at stored view) above) (view_scroll at view (is_on_screen at n)))) (holders_of_unheld at n (ap element_of is))
    ∙ ap (λ screen. moved_back (flat_place at view n) (plus (0, 0) (view_scroll at view screen))) (on_screen_unheld at n (ap element_of is) ∙ ap is_screen is)
    ∙ held_by_view (flat_place at view n) (view_scroll at view false)

pub returns-clause-screen : goal.returns-clause-screen
unfolding place_in sum_points
returns-clause-screen c at stored view n is =
    ap (λ above. moved_back (flat_place at view n) (plus (sum_points (offset_in_force at stored view) above) (view_scroll at view (is_on_screen at n)))) (holders_of_unheld at n (ap element_of is))
    ∙ ap (λ screen. moved_back (flat_place at view n) (plus (0, 0) (view_scroll at view screen))) (on_screen_unheld at n (ap element_of is) ∙ ap is_screen is)
    ∙ unmoved (flat_place at view n)
