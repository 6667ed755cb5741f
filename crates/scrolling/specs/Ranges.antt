-- How far a box or a viewport can be scrolled.
use Rattle.std.specs.Prelude.{ℤ, pos, ◌≤ℤ◌}
use Rattle.px_units.specs.declared.Size.{Size}

abbrev pub IsLength : ℤ → Type 0
IsLength units = (pos 0 ≤ℤ units) × (units ≤ℤ pos 2147483647)

-- a scrolling range is from 0 to the largest length on both axes
abbrev pub IsRange : Size → Type 0
IsRange range = IsLength range.width × IsLength range.height
