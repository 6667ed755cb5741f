-- How a length is printed: exactly, in CSS pixels. This form is this project's own choice.
use Rattle.std.specs.Prelude.{ℕ, zero, suc, ◌+◌, ◌*◌, ◌/◌, ◌%◌, ◌^◌, cond, ◌==◌, List, [], ◌∷◌, ◌++◌, ℤ, pos, int_lt, unsigned_abs}
use Rattle.word_model.specs.Numbers.{decimal}

-- a given number of the last digits of a number, with leading zeros
unfoldable pub digits_in : ℕ → ℕ → List ℕ
digits_in zero number = []
digits_in (suc places) number = (48 + number / 10 ^ places % 10) ∷ digits_in places number

-- puts a digit before digits without final zeros; a zero is dropped if no digits follow it
unfoldable pub with_digit : ℕ → List ℕ → List ℕ
with_digit digit [] = cond (digit == 48) [] (digit ∷ [])
with_digit digit (d ∷ ds) = digit ∷ d ∷ ds

unfoldable pub without_final_zeros : List ℕ → List ℕ
unfolding with_digit
without_final_zeros [] = []
without_final_zeros (d ∷ ds) = with_digit d (without_final_zeros ds)

-- a point and the remainder in millionths of a pixel, of which a unit has 15,625, without final zeros; nothing if there is no remainder
unfoldable pub rest_text : ℕ → List ℕ
unfolding without_final_zeros digits_in
rest_text rest = cond (rest == 0) [] (46 ∷ without_final_zeros (digits_in 6 (rest * 15625)))

unfoldable pub sign_text : ℤ → List ℕ
sign_text units = cond (int_lt units (pos 0)) (45 ∷ []) []

-- a minus sign if it is negative, the whole pixels, and the remainder
unfoldable pub pixel_text : ℤ → List ℕ
unfolding sign_text decimal rest_text
pixel_text units = sign_text units ++ decimal (unsigned_abs units / 64) ++ rest_text (unsigned_abs units % 64)
