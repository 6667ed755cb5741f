-- How a length of a script or a media query is printed: as the shortest text that is read as this length, and as the
-- first of these in byte order. Lengths are in units of 1/64 pixel; this form is this project's own choice.
use Rattle.std.specs.Prelude.{ℕ, ◌+◌, ◌*◌, ◌/◌, ◌%◌, cond, ◌==◌, List, ◌∷◌, ◌++◌, codes}
use Rattle.word_model.specs.Numbers.{decimal}

-- the smallest number of tenths of a pixel that isn't less than a length
abbrev pub tenths_of : ℕ → ℕ
tenths_of units = (units * 10 + 63) / 64

-- the same in hundredths of a pixel
abbrev pub hundredths_of : ℕ → ℕ
hundredths_of units = (units * 100 + 63) / 64

-- a number's last digit
abbrev pub last_digit : ℕ → ℕ
last_digit number = 48 + number % 10

-- so many tenths of a pixel
unfoldable pub tenths_text : ℕ → List ℕ
unfolding decimal
tenths_text tenths = decimal (tenths / 10) ++ (46 ∷ last_digit tenths ∷ codes "px")

-- so many hundredths of a pixel
unfoldable pub hundredths_text : ℕ → List ℕ
unfolding decimal
hundredths_text hundredths =
    decimal (hundredths / 100) ++ (46 ∷ last_digit (hundredths / 10) ∷ last_digit hundredths ∷ codes "px")

-- whole pixels if there is no remainder; else tenths, if they round down to exactly this length; else hundredths, which always do
unfoldable pub length_text : ℕ → List ℕ
unfolding decimal tenths_text hundredths_text
length_text units =
    cond (units % 64 == 0) (decimal (units / 64) ++ codes "px")
    (cond (tenths_of units * 64 / 10 == units) (tenths_text (tenths_of units)) (hundredths_text (hundredths_of units)))
