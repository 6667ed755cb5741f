-- The order of texts by their bytes.
use Rattle.std.specs.Prelude.{ℕ, Bool, true, false, ◌||◌, ◌&&◌, ◌==◌, nat_lt, List, [], ◌∷◌}

-- whether the first text is equal to the second or comes before it
unfoldable pub is_not_after : List ℕ → List ℕ → Bool
is_not_after [] other = true
is_not_after (b ∷ bs) [] = false
is_not_after (b ∷ bs) (c ∷ cs) = nat_lt b c || (b == c && is_not_after bs cs)
