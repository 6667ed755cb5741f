-- Rectangles given by their four edges in units of 1/64 pixel, x to the right and y downwards. An edge belongs to the rectangle, so two
-- rectangles that only touch have an intersection (Intersection Observer, 3.2.7 and 3.2.8).
use Rattle.std.specs.Prelude.{ℕ, ◌*◌, Bool, cond, ◌&&◌, ℤ, pos, negsuc, ◌≤ℤ◌, ◌+ℤ◌, ◌-ℤ◌, unsigned_abs, int_le, Option, Some, None}
use Rattle.std.specs.Int.{int_min, int_max}
use Rattle.px_units.specs.declared.Rect.{Rect}

-- from -2 ^ 50 to 2 ^ 50, where sums and differences of two edges fit 64 bits
pub record InReach (edge : ℤ) : Type 0 where
  pub low : negsuc 1125899906842623 ≤ℤ edge
  pub high : edge ≤ℤ pos 1125899906842624

pub record RectInReach (r : Rect) : Type 0 where
  pub left : InReach r.left
  pub top : InReach r.top
  pub right : InReach r.right
  pub bottom : InReach r.bottom

-- whether no edge is beyond the opposite one
abbrev pub has_points : Rect → Bool
has_points r = int_le r.left r.right && int_le r.top r.bottom

-- the greater left and top edges and the lesser right and bottom edges
abbrev pub overlap : Rect → Rect → Rect
overlap a b = record {
  left = int_max a.left b.left;
  top = int_max a.top b.top;
  right = int_min a.right b.right;
  bottom = int_min a.bottom b.bottom;
}

-- the intersection, None if there is no common point
abbrev pub meeting : Rect → Rect → Option Rect
meeting a b = cond (has_points (overlap a b)) (Some (overlap a b)) None

-- a rectangle moved to the right and downwards
abbrev pub shifted : Rect → ℤ → ℤ → Rect
shifted r left top = record {
  left = r.left +ℤ left;
  top = r.top +ℤ top;
  right = r.right +ℤ left;
  bottom = r.bottom +ℤ top;
}

-- in square units, 0 if an edge is beyond the opposite one
abbrev pub area : Rect → ℕ
area r = cond (has_points r) (unsigned_abs (r.right -ℤ r.left) * unsigned_abs (r.bottom -ℤ r.top)) 0

-- the point is within the edges or on them
pub record Holds (r : Rect) (x y : ℤ) : Type 0 where
  pub right_of_left : r.left ≤ℤ x
  pub left_of_right : x ≤ℤ r.right
  pub below_top : r.top ≤ℤ y
  pub above_bottom : y ≤ℤ r.bottom

-- the point is in a rectangle that may be absent
abbrev pub HeldBy : Option Rect → ℤ → ℤ → Type 0
HeldBy None x y = ⊥
HeldBy (Some r) x y = Holds r x y
