-- Places and boxes along one axis.
use Rattle.std.specs.Prelude.{ℕ, ℤ, Bool, true, false, Option, Some, None, pos, ◌+ℤ◌}
use Rattle.layout_model.specs.Styles.{Sides, Position, StaticPosition, RelativePosition, AbsolutePosition, FixedPosition}
use Rattle.layout_model.specs.Boxes.{Inputs, Box}
use Rattle.layout_model.specs.FlatPlaces.{Along, across, down, shift_by, placed_along}
use Rattle.positioned_layout.specs.declared.insets.Axis.{Axis}
use Rattle.positioned_layout.specs.declared.insets.Axis.TheVariants.{Across, Down}
use Rattle.positioned_layout.specs.declared.insets.Moved.{Moved}
use Rattle.positioned_layout.specs.declared.insets.Moved.TheVariants.{FromHolder, FromFlow}

abbrev pub part : {A : Type 0} → Axis → A × A → A
part Across pair = pair.0
part Down pair = pair.1

-- the far side along an axis, which is the right or the bottom one
abbrev pub far_side : {A : Type 0} → Axis → Sides A → A
far_side Across sides = sides.right
far_side Down sides = sides.bottom

-- a box along an axis
abbrev pub along : Axis → Inputs → Sides (Option ℤ) → Box → Along
along Across inputs insets box = across inputs insets box
along Down inputs insets box = down inputs insets box

-- where a box with this position is, with the padding box of its holder at `corner` and the box's place in flow at `in_flow`
abbrev pub placed_from : Position → Along → ℤ → ℤ → ℤ
placed_from StaticPosition it corner in_flow = in_flow
placed_from RelativePosition it corner in_flow = in_flow +ℤ shift_by it.near it.far
placed_from AbsolutePosition it corner in_flow = placed_along it corner in_flow
placed_from FixedPosition it corner in_flow = placed_along it corner in_flow

-- the same, given how far the box is moved and from where
abbrev pub moved_from : Moved → ℤ → ℤ → ℤ
moved_from (FromHolder by) corner in_flow = corner +ℤ by
moved_from (FromFlow by) corner in_flow = in_flow +ℤ by

-- whether it is moved from the padding box of its holder
abbrev pub is_held : Moved → Bool
is_held (FromHolder by) = true
is_held (FromFlow by) = false

abbrev pub moved_by : Moved → ℤ
moved_by (FromHolder by) = by
moved_by (FromFlow by) = by

-- the place of another box, or of the viewport if there is none
abbrev pub place_of : (ℕ → ℤ × ℤ) → Option ℕ → ℤ × ℤ
place_of flat None = (pos 0, pos 0)
place_of flat (Some n) = flat n
