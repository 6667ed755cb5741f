-- How percentages, numbers and lengths with a sign are printed: as the shortest text that is read as the value, and as
-- the first of these in byte order. The forms are this project's own choice.
use Rattle.std.specs.Prelude.{ℕ, zero, suc, ◌/◌, ◌%◌, ℤ, pos, negsuc, unsigned_abs, cond, ◌==◌, List, [], ◌∷◌, ◌++◌, codes}
use Rattle.word_model.specs.Numbers.{decimal}
use Rattle.media_queries.specs.LengthText.{last_digit, length_text}

-- a number with a given number of places after the point, counted in units of the last one, printed with all these places before a text
unfoldable pub all_places : ℕ → ℕ → List ℕ → List ℕ
unfolding decimal
all_places zero number behind = decimal number ++ (46 ∷ behind)
all_places (suc places) number behind = all_places places (number / 10) (last_digit number ∷ behind)

-- the same without trailing zeros, and without the point if no place is left
unfoldable pub places_text : ℕ → ℕ → List ℕ
unfolding decimal all_places
places_text zero number = decimal number
places_text (suc places) number =
    cond (number % 10 == 0) (places_text places (number / 10)) (all_places (suc places) number [])

-- hundredths of a percent
unfoldable pub percent_text : ℕ → List ℕ
unfolding places_text
percent_text hundredths = places_text 2 hundredths ++ codes "%"

-- a text with `-` before it if the number is negative
abbrev pub with_minus : ℤ → List ℕ → List ℕ
with_minus (pos number) text = text
with_minus (negsuc number) text = 45 ∷ text

-- units of 1/64 pixel
unfoldable pub signed_text : ℤ → List ℕ
unfolding length_text
signed_text units = with_minus units (length_text (unsigned_abs units))

-- hundredths of a percent with a sign
unfoldable pub signed_percent_text : ℤ → List ℕ
unfolding percent_text
signed_percent_text hundredths = with_minus hundredths (percent_text (unsigned_abs hundredths))

-- ten-thousandths
unfoldable pub number_text : ℤ → List ℕ
unfolding places_text
number_text number = with_minus number (places_text 4 (unsigned_abs number))
