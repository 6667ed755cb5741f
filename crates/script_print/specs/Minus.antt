-- The sign of a number.
use Rattle.std.specs.Prelude.{ℕ, ℤ, pos, int_lt, cond, List, [], ◌∷◌}

abbrev pub minus_text : ℤ → List ℕ
minus_text number = cond (int_lt number (pos 0)) (45 ∷ []) []
