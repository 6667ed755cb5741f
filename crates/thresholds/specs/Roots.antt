-- Root rectangles before a margin moves their edges outward, in units of 1/64 pixel. The bounds are this project's own.
use Rattle.std.specs.Prelude.{ℤ, pos, negsuc, ◌≤ℤ◌, ◌-ℤ◌}
use Rattle.px_units.specs.declared.Rect.{Rect}

-- from -2 ^ 48 to 2 ^ 48
pub record IsRootEdge (edge : ℤ) : Type 0 where
  pub low : negsuc 281474976710655 ≤ℤ edge
  pub high : edge ≤ℤ pos 281474976710656

-- from -2 ^ 42 to 2 ^ 42
pub record IsRootWidth (width : ℤ) : Type 0 where
  pub low : negsuc 4398046511103 ≤ℤ width
  pub high : width ≤ℤ pos 4398046511104

pub record IsRootRect (root : Rect) : Type 0 where
  pub left : IsRootEdge root.left
  pub top : IsRootEdge root.top
  pub right : IsRootEdge root.right
  pub bottom : IsRootEdge root.bottom
  pub width : IsRootWidth (root.right -ℤ root.left)

-- how far a margin moves an edge: at most 100 times the largest width of a root rectangle
pub record IsMargin (units : ℤ) : Type 0 where
  pub low : negsuc 439804651110399 ≤ℤ units
  pub high : units ≤ℤ pos 439804651110400

-- each edge of a rectangle is moved at most that far
pub record IsNear (root moved : Rect) : Type 0 where
  pub left : IsMargin (moved.left -ℤ root.left)
  pub top : IsMargin (moved.top -ℤ root.top)
  pub right : IsMargin (moved.right -ℤ root.right)
  pub bottom : IsMargin (moved.bottom -ℤ root.bottom)
