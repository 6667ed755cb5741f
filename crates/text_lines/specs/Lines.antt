-- The first line of a text, which is its bytes up to and including the first line feed; and the text after it.
use Rattle.std.specs.Prelude.{ℕ, ◌==◌, cond, List, [], ◌∷◌}

unfoldable pub first_line : List ℕ → List ℕ
first_line [] = []
first_line (b ∷ bs) = cond (b == 10) (b ∷ []) (b ∷ first_line bs)

unfoldable pub behind_line : List ℕ → List ℕ
behind_line [] = []
behind_line (b ∷ bs) = cond (b == 10) bs (behind_line bs)
