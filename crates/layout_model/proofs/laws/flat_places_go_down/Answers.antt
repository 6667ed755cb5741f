use Rattle.std.proofs.Common.{◌≡◌, ℤ, ap, ◌∙◌, inl, inr, arith}
use Rattle.std.specs.Prelude.{pos, ◌+ℤ◌, ◌-ℤ◌}
use Rattle.std.proofs.lemmas.Int.{ints}
use Rattle.px_units.specs.Lengths.{clamped}
use Rattle.layout_model.specs.Nodes.{holder}
use Rattle.layout_model.specs.Boxes.{box_in, border_width}
use Rattle.layout_model.specs.FlatPlaces.{corner_of, above_of, offset_of, flat_place, flat_up}
use Rattle.layout_model.proofs.Inputs.{under_view}
use Rattle.layout_model.proofs.FlatPlaces.{insets_at, flow_over, near_across, far_across, flow_across, flat_of_top, flat_of_static, flat_of_relative, flat_out_of_flow, flat_first_out}
use Rattle.layout_model.proofs.laws.flat_places_go_down.Goals as goal

from_zero : (far : ℤ) → pos 0 +ℤ far ≡ far
from_zero far = omega (arith, ints)

pub returns-clause-root : goal.returns-clause-root
returns-clause-root c at view n top = flat_of_top at view n top

pub returns-clause-unmoved : goal.returns-clause-unmoved
returns-clause-unmoved c at shallow view n p is position = flat_of_static at shallow view n p is position

pub returns-clause-relative : goal.returns-clause-relative
returns-clause-relative c at shallow view inputs n p is position found = flat_of_relative at shallow view inputs n p is position (under_view at view inputs n found)

pub returns-clause-near : goal.returns-clause-near
returns-clause-near c at shallow view inputs n h left out found held near =
    ap (λ place. place.0) (flat_out_of_flow at shallow view n inputs out (under_view at view inputs n found))
    ∙ near_across inputs (insets_at at n inputs) (box_in at inputs n) (corner_of at (flat_place at view) (holder at n)) (flow_over at view (flat_place at view) n) left near
    ∙ ap (λ by. (corner_of at (flat_place at view) by).0 +ℤ clamped (left +ℤ pos ((box_in at inputs n).margin.left))) held

pub returns-clause-far : goal.returns-clause-far
returns-clause-far c at shallow view inputs n h right out found held none far =
    ap (λ place. place.0) (flat_out_of_flow at shallow view n inputs out (under_view at view inputs n found))
    ∙ far_across inputs (insets_at at n inputs) (box_in at inputs n) (corner_of at (flat_place at view) (holder at n)) (flow_over at view (flat_place at view) n) right none far
    ∙ ap
    (λ by. (corner_of at (flat_place at view) by).0 +ℤ clamped (pos (inputs.width) -ℤ right -ℤ pos ((box_in at inputs n).margin.right) -ℤ pos (border_width (box_in at inputs n))))
    held

pub returns-clause-neither : goal.returns-clause-neither
returns-clause-neither c at shallow view inputs n p is found out none none_far =
    ap (λ place. place.0) (flat_out_of_flow at shallow view n inputs out (under_view at view inputs n found))
    ∙ flow_across inputs (insets_at at n inputs) (box_in at inputs n) (corner_of at (flat_place at view) (holder at n)) (flow_over at view (flat_place at view) n) none none_far
    ∙ ap (λ above. (above_of (flat_place at view) above).0 +ℤ pos ((offset_of at view n).0)) is

pub returns-clause-on_screen : goal.returns-clause-on_screen
returns-clause-on_screen c at view inputs n left out found by near =
    ap (λ place. place.0) (flat_first_out at view n inputs out (under_view at view inputs n found))
    ∙ near_across inputs (insets_at at n inputs) (box_in at inputs n) (corner_of at (flat_up 65535 at view) (holder at n)) (flow_over at view (flat_up 65535 at view) n) left near
    ∙ elim by [
      | inl page ↦ ap (λ by. (corner_of at (flat_up 65535 at view) by).0 +ℤ clamped (left +ℤ pos ((box_in at inputs n).margin.left))) page
      | inr screen ↦ ap (λ by. (corner_of at (flat_up 65535 at view) by).0 +ℤ clamped (left +ℤ pos ((box_in at inputs n).margin.left))) screen
    ]
    ∙ from_zero (clamped (left +ℤ pos ((box_in at inputs n).margin.left)))
