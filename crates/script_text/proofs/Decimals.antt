-- How many decimal digits a number has.
use Rattle.std.proofs.Common.{◌≡◌, ℕ, zero, suc, ◌+◌, ◌/◌, ◌^◌, ◌<◌, ◌≤◌, true, List, [], length, ap, arith}
use Rattle.std.specs.List.{list_all}
use Rattle.word_model.specs.Names.{is_digit}
use Rattle.word_model.specs.Numbers.{decimal_on, decimal}
use Rattle.word_model.proofs.RoundTrip.{tenth, by_digits, decimal_is}

abbrev pub AreDigits : List ℕ → Type 0
AreDigits text = list_all is_digit text ≡ true

more_short : (m length_text length_behind : ℕ) → 10 ≤ m → ((k : ℕ) → m / 10 < 10 ^ suc k → length_text ≤ suc k + suc length_behind) → (k : ℕ) → m < 10 ^ suc k → length_text ≤ suc k + length_behind
more_short m long behind large so_far zero h = absurd (omega arith)
more_short m long behind large so_far (suc k) h = let f = so_far k (tenth m (suc k) h) in omega arith

on_short : (places n : ℕ) (behind : List ℕ) → n < 10 ^ suc places → (k : ℕ) → n < 10 ^ suc k → length (decimal_on (suc places) n behind) ≤ suc k + length behind
on_short places n behind h =
    by_digits (λ m rest text. (k : ℕ) → m < 10 ^ suc k → length text ≤ suc k + length rest)
    (λ m rest small k fits. omega arith)
    (λ m rest text large so_far. more_short m (length text) (length rest) large so_far)
    places n behind h

-- a number below a power of ten has at most so many digits
pub decimal_short : (n k : ℕ) → n < 10 ^ 39 → n < 10 ^ suc k → length (decimal n) ≤ suc k
decimal_short n k small fits = let h = on_short 38 n [] small k fits in let e = ap length (decimal_is n) in omega arith
