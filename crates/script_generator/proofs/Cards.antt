-- The lines of a card, by its number in decimal.
use Rattle.std.proofs.Common.{◌≡◌, refl, ℕ, List, [], ◌∷◌, ◌++◌}
use Rattle.std.specs.Prelude.{codes}
use Rattle.word_model.specs.Numbers.{decimal}
use Rattle.script_model.specs.Generator.{card_lines}

abbrev pub lines_with : List ℕ → List (List ℕ)
lines_with digits =
    (codes "block c" ++ digits ++ codes " top")
    ∷ (codes "set c" ++ digits ++ codes " height 100px")
    ∷ (codes "append r c" ++ digits ++ [])
    ∷ (codes "image g" ++ digits ++ codes " top 0px 0px")
    ∷ (codes "append c" ++ digits ++ (codes " g" ++ digits ++ []))
    ∷ (codes "block t" ++ digits ++ codes " top")
    ∷ (codes "set t" ++ digits ++ codes " height 20px")
    ∷ (codes "append c" ++ digits ++ (codes " t" ++ digits ++ []))
    ∷ (codes "io-observe lazy g" ++ digits ++ [])
    ∷ []

pub lines_by_digits : (card : ℕ) → card_lines card ≡ lines_with (decimal card)
unfolding card_lines
lines_by_digits card = refl
