-- Root margins of intersection observers as values (Intersection Observer, 2.2.1).
use Rattle.std.specs.Prelude.{ℤ}
use Rattle.layout_model.specs.Styles.{Sides}

-- units, or hundredths of a percent of the root rectangle's width
pub data MarginPart : Type 0 where
  MarginPixels : (units : ℤ) → MarginPart
  MarginPercentage : (hundredths : ℤ) → MarginPart

abbrev pub Margins : Type 0
Margins = Sides MarginPart
