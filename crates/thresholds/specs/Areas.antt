-- The visible part of a box.
use Rattle.std.specs.Prelude.{◌≤ℤ◌}
use Rattle.px_units.specs.declared.Rect.{Rect}

-- the inner rectangle doesn't extend beyond the outer one
pub record LiesIn (outer inner : Rect) : Type 0 where
  pub left : outer.left ≤ℤ inner.left
  pub top : outer.top ≤ℤ inner.top
  pub right : inner.right ≤ℤ outer.right
  pub bottom : inner.bottom ≤ℤ outer.bottom
