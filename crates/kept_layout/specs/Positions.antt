-- A place as a point of the code, in units of 1/64 pixel, x to the right and y downwards.
use Rattle.std.specs.Prelude.{ℤ}
use Rattle.px_units.specs.declared.Point.{Point}

abbrev pub point_of : ℤ × ℤ → Point
point_of pair = record { left = pair.0; top = pair.1 }
