-- Where points and rectangles lie in the coordinates of the top document's viewport, in units of 1/64 pixel. The bounds are
-- this project's own.
use Rattle.std.specs.Prelude.{ℕ, ◌*◌, ℤ, pos, negsuc, neg_ℤ, ◌≤ℤ◌, ◌-ℤ◌}
use Rattle.px_units.specs.declared.Point.{Point}
use Rattle.px_units.specs.declared.Rect.{Rect}
use Rattle.px_units.specs.Rects.{InReach, RectInReach}
use Rattle.page_model.specs.World.{Finding}

-- a place plus a length: from -3 * 2 ^ 40 to 3 * 2 ^ 40 units
abbrev pub IsCorner : ℤ → Type 0
IsCorner units = (negsuc 3298534883327 ≤ℤ units) × (units ≤ℤ pos 3298534883328)

-- the origin of the viewport of a document that is nested in so many frames, each of which moves it by at most 3 * 2 ^ 40 units
pub record IsOrigin (frames : ℕ) (at : Point) : Type 0 where
  pub left_low : neg_ℤ (pos (frames * 3298534883328)) ≤ℤ at.left
  pub left_high : at.left ≤ℤ pos (frames * 3298534883328)
  pub top_low : neg_ℤ (pos (frames * 3298534883328)) ≤ℤ at.top
  pub top_high : at.top ≤ℤ pos (frames * 3298534883328)

-- an edge of a root rectangle that margins moved: at most 2 ^ 48 and 100 widths of 2 ^ 42 from 0
pub record IsMovedEdge (edge : ℤ) : Type 0 where
  pub low : negsuc 721279627821055 ≤ℤ edge
  pub high : edge ≤ℤ pos 721279627821056

pub record IsMoved (r : Rect) : Type 0 where
  pub left : IsMovedEdge r.left
  pub top : IsMovedEdge r.top
  pub right : IsMovedEdge r.right
  pub bottom : IsMovedEdge r.bottom
  pub width : InReach (r.right -ℤ r.left)
  pub height : InReach (r.bottom -ℤ r.top)

-- edges, width and height from -2 ^ 50 to 2 ^ 50
pub record IsRectReached (r : Rect) : Type 0 where
  pub edges : RectInReach r
  pub width : InReach (r.right -ℤ r.left)
  pub height : InReach (r.bottom -ℤ r.top)

-- all rectangles of a finding
pub record IsReached (it : Finding) : Type 0 where
  pub root : IsRectReached it.root
  pub bounds : IsRectReached it.bounds
  pub cut : IsRectReached it.cut
