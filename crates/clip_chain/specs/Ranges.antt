-- The ranges of rectangles, in units of 1/64 pixel. The bounds are this project's own.
use Rattle.std.specs.Prelude.{ℤ, pos, negsuc, ◌≤ℤ◌, ◌-ℤ◌}
use Rattle.px_units.specs.declared.Rect.{Rect}

-- from -2 ^ 48 to 2 ^ 48
pub record IsEdge (edge : ℤ) : Type 0 where
  pub low : negsuc 281474976710655 ≤ℤ edge
  pub high : edge ≤ℤ pos 281474976710656

pub record HasEdges (r : Rect) : Type 0 where
  pub left : IsEdge r.left
  pub top : IsEdge r.top
  pub right : IsEdge r.right
  pub bottom : IsEdge r.bottom

-- from -2 ^ 42 to 2 ^ 42
pub record IsClipWidth (width : ℤ) : Type 0 where
  pub low : negsuc 4398046511103 ≤ℤ width
  pub high : width ≤ℤ pos 4398046511104

-- from 0 to 2 ^ 40
pub record IsSide (side : ℤ) : Type 0 where
  pub low : pos 0 ≤ℤ side
  pub high : side ≤ℤ pos 1099511627776

-- the clip of a spot
pub record IsClip (r : Rect) : Type 0 where
  pub edges : HasEdges r
  pub width : IsClipWidth (r.right -ℤ r.left)

-- a box, whose width and height aren't negative
pub record IsBounds (r : Rect) : Type 0 where
  pub edges : HasEdges r
  pub width : IsSide (r.right -ℤ r.left)
  pub height : IsSide (r.bottom -ℤ r.top)
