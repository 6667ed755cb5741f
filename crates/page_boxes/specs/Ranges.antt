-- The ranges of lengths and places.
use Rattle.std.specs.Prelude.{ℤ, pos, negsuc, ◌≤ℤ◌}
use Rattle.px_units.specs.declared.Point.{Point}
use Rattle.px_units.specs.declared.Rect.{Rect}
use Rattle.page_tree.specs.Items.{IsLength}

-- a scroll offset: from 0 to the largest length on both axes
abbrev pub IsOffset : Point → Type 0
IsOffset point = IsLength point.left × IsLength point.top

-- from 0 to 2 ^ 40 units
abbrev pub IsSpan : ℤ → Type 0
IsSpan units = (pos 0 ≤ℤ units) × (units ≤ℤ pos 1099511627776)

-- from -2 ^ 41 to 2 ^ 41 units
abbrev pub IsPlace : ℤ → Type 0
IsPlace units = (negsuc 2199023255551 ≤ℤ units) × (units ≤ℤ pos 2199023255552)

-- from -2 ^ 42 to 2 ^ 42 units
abbrev pub IsEdge : ℤ → Type 0
IsEdge units = (negsuc 4398046511103 ≤ℤ units) × (units ≤ℤ pos 4398046511104)

-- the edges of a rectangle that begins at a place and has a span on each axis
pub record AreEdges (r : Rect) : Type 0 where
  pub left : IsEdge r.left
  pub top : IsEdge r.top
  pub right : IsEdge r.right
  pub bottom : IsEdge r.bottom
