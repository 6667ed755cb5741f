-- Points and extents as pairs, x before y and width before height.
use Rattle.std.specs.Prelude.{ℕ, ◌+◌, ◌-◌, ◌≤◌, ℤ, pos, ◌+ℤ◌, ◌-ℤ◌, min, max, List, [], ◌∷◌}
use Rattle.px_units.specs.Lengths.{cap}

abbrev pub plus : ℕ × ℕ → ℕ × ℕ → ℕ × ℕ
plus a b = (a.0 + b.0, a.1 + b.1)

abbrev pub minus : ℕ × ℕ → ℕ × ℕ → ℕ × ℕ
minus a b = (a.0 - b.0, a.1 - b.1)

-- each coordinate capped at the largest length
abbrev pub capped : ℕ × ℕ → ℕ × ℕ
capped point = (cap (point.0), cap (point.1))

-- no greater on either axis
abbrev pub IsWithin : ℕ × ℕ → ℕ × ℕ → Type 0
IsWithin a b = (a.0 ≤ b.0) × (a.1 ≤ b.1)

-- a place moved to the right and down, and back
abbrev pub moved : ℤ × ℤ → ℕ × ℕ → ℤ × ℤ
moved place by = (place.0 +ℤ pos (by.0), place.1 +ℤ pos (by.1))

abbrev pub moved_back : ℤ × ℤ → ℕ × ℕ → ℤ × ℤ
moved_back place by = (place.0 -ℤ pos (by.0), place.1 -ℤ pos (by.1))

abbrev pub larger : ℕ × ℕ → ℕ × ℕ → ℕ × ℕ
larger a b = (max (a.0) (b.0), max (a.1) (b.1))

abbrev pub lesser : ℕ × ℕ → ℕ × ℕ → ℕ × ℕ
lesser a b = (min (a.0) (b.0), min (a.1) (b.1))

unfoldable pub sum_points : (ℕ → ℕ × ℕ) → List ℕ → ℕ × ℕ
sum_points point [] = (0, 0)
sum_points point (n ∷ ns) = plus (point n) (sum_points point ns)
