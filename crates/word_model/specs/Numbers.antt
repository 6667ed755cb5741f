-- Numbers written in decimal, and the forms of a script's words that contain one. The forms, with their numbers of digits and their
-- bounds, are this project's own choice. Bytes are ASCII: 45 is `-`, 46 is `.`, 48 to 57 are digits.
use Rattle.std.specs.Prelude.{ℕ, zero, suc, ◌+◌, ◌-◌, ◌*◌, ◌/◌, ◌%◌, ◌^◌, Bool, false, cond, not, ◌&&◌, ◌==◌, nat_lt, nat_le, List, [], ◌∷◌, ◌++◌, length, drop, ℤ, pos, neg_ℤ, Option, Some, None, option_map, fold, take_while, bytes_eq, codes}
use Rattle.std.specs.List.{list_all}
use Rattle.word_model.specs.Names.{is_digit}

-- puts the decimal digits of a number, at most so many, in front of a text, beginning with the last digit
unfoldable pub decimal_on : ℕ → ℕ → List ℕ → List ℕ
decimal_on zero number behind = behind
decimal_on (suc places) number behind =
    cond (nat_lt number 10) ((48 + number) ∷ behind) (decimal_on places (number / 10) ((48 + number % 10) ∷ behind))

-- a number in decimal, without a leading zero; 39 digits are enough for every number below 2 ^ 128
unfoldable pub decimal : ℕ → List ℕ
unfolding decimal_on
decimal number = decimal_on 39 number []

-- the number that digits represent
unfoldable pub digits_value : List ℕ → ℕ
digits_value digits = fold (λ value digit. value * 10 + (digit - 48)) 0 digits

unfoldable pub begins_with : ℕ → List ℕ → Bool
begins_with byte [] = false
begins_with byte (b ∷ bs) = b == byte

-- A written number has four parts: an optional `-`, digits, an optional point with digits after it, and all that follows, its unit. A
-- point without a digit after it belongs to the unit.

-- the text after the sign, if there is one
unfoldable pub unsigned : List ℕ → List ℕ
unfolding begins_with
unsigned text = cond (begins_with 45 text) (drop 1 text) text

unfoldable pub leading_digits : List ℕ → List ℕ
leading_digits text = take_while is_digit text

unfoldable pub behind_digits : List ℕ → List ℕ
unfolding leading_digits
behind_digits text = drop (length (leading_digits text)) text

-- the digits after the point that a text begins with; none if it doesn't begin with one
unfoldable pub point_digits : List ℕ → List ℕ
unfolding begins_with leading_digits
point_digits text = cond (begins_with 46 text) (leading_digits (drop 1 text)) []

-- the text after this point and its digits; the whole text if there are no such digits
unfoldable pub behind_point : List ℕ → List ℕ
unfolding point_digits behind_digits
behind_point text = cond (length (point_digits text) == 0) text (behind_digits (drop 1 text))

-- the digits after the point of a number, none if it has no point
abbrev pub fraction_digits : List ℕ → List ℕ
fraction_digits text = point_digits (behind_digits text)

abbrev pub unit_of : List ℕ → List ℕ
unit_of text = behind_point (behind_digits text)

-- the text made of these parts; the point is written only if there are digits after it
abbrev pub spelled : Bool → List ℕ → List ℕ → List ℕ → List ℕ
spelled negative whole fraction unit =
    cond negative (45 ∷ []) [] ++ whole ++ cond (length fraction == 0) [] (46 ∷ fraction) ++ unit

-- an optional `-`, one or more digits, optionally a point and one or more digits, and then this unit
unfoldable pub is_decimal_with : List ℕ → List ℕ → Bool
unfolding unsigned leading_digits behind_point
is_decimal_with unit text =
    nat_lt 0 (length (leading_digits (unsigned text))) && bytes_eq (unit_of (unsigned text)) unit

-- 1 to `most` digits, optionally a point and 1 to `places` digits, and then this unit
unfoldable pub has_form : ℕ → ℕ → List ℕ → List ℕ → Bool
unfolding leading_digits behind_point
has_form most places unit text =
    nat_lt 0 (length (leading_digits text)) && nat_le (length (leading_digits text)) most
    && nat_le (length (fraction_digits text)) places && bytes_eq (unit_of text) unit

-- 10 ^ `places` times the number that is written, if it has at most `places` digits after its point
unfoldable pub scaled : ℕ → List ℕ → ℕ
unfolding digits_value leading_digits point_digits
scaled places text =
    digits_value (leading_digits text) * 10 ^ places
    + digits_value (fraction_digits text) * 10 ^ (places - length (fraction_digits text))

-- a number, if it isn't above a bound
unfoldable pub at_most : ℕ → ℕ → Option ℕ
at_most bound number = cond (nat_le number bound) (Some number) None

-- the scaled number; None if the text doesn't have this form or the scaled number, as it is written, is above the bound
unfoldable pub form_of : ℕ → ℕ → ℕ → List ℕ → List ℕ → Option ℕ
unfolding has_form scaled at_most
form_of bound most places unit text =
    cond (has_form most places unit text) (at_most bound (scaled places text)) None

unfoldable pub with_sign : Bool → ℕ → ℤ
with_sign negative number = cond negative (neg_ℤ (pos number)) (pos number)

-- what a form gives, with an optional `-` before it
unfoldable pub signed_by : (List ℕ → Option ℕ) → List ℕ → Option ℤ
unfolding begins_with unsigned with_sign
signed_by of text = option_map (with_sign (begins_with 45 text)) (of (unsigned text))

-- `0`, or digits without a leading zero
unfoldable pub is_whole : List ℕ → Bool
unfolding begins_with
is_whole text =
    nat_lt 0 (length text) && list_all is_digit text && not (begins_with 48 text && nat_lt 1 (length text))

-- such a number of at most 1,000,000,000,000
unfoldable pub whole_of : List ℕ → Option ℕ
unfolding is_whole at_most digits_value
whole_of text = cond (is_whole text) (at_most 1000000000000 (digits_value text)) None

-- hundredths of a pixel, at most 1,000,000 pixels
unfoldable pub hundredths_of_pixels : List ℕ → Option ℕ
unfolding form_of
hundredths_of_pixels text = form_of 100000000 7 2 (codes "px") text

-- a length in units of 1/64 pixel, rounded down
unfoldable pub length_of : List ℕ → Option ℕ
unfolding hundredths_of_pixels
length_of text = option_map (λ hundredths. hundredths * 64 / 100) (hundredths_of_pixels text)

-- a length with an optional `-`, truncated toward zero
unfoldable pub signed_of : List ℕ → Option ℤ
unfolding signed_by length_of
signed_of text = signed_by length_of text

-- hundredths of a percent, at most 10,000 percent
unfoldable pub percent_of : List ℕ → Option ℕ
unfolding form_of
percent_of text = form_of 1000000 7 2 (codes "%") text

unfoldable pub signed_percent_of : List ℕ → Option ℤ
unfolding signed_by percent_of
signed_percent_of text = signed_by percent_of text

-- 1 to 9 digits, optionally a point and 1 to 4 digits: a number in ten-thousandths
unfoldable pub ten_thousandths_of : List ℕ → Option ℕ
unfolding has_form scaled
ten_thousandths_of text = cond (has_form 9 4 [] text) (Some (scaled 4 text)) None

unfoldable pub number_of : List ℕ → Option ℤ
unfolding signed_by ten_thousandths_of
number_of text = signed_by ten_thousandths_of text
