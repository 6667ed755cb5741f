-- Decimals by long division, one digit after the other.
use Rattle.std.proofs.Common.{◌≡◌, ◌≢◌, ℕ, ◌+◌, ◌*◌, ◌/◌, ◌%◌, ◌<◌, ◌≤◌, Bool, true, false, not, ◌&&◌, ◌==◌, List, length, drop, get_or, refl, ap, sym, ◌∙◌, arith, add-one, drop-cons}
use Rattle.std.proofs.lemmas.List.{drop_all}
use Rattle.std.proofs.lemmas.Bool.{ne_eqb, eq-eqb}
use Rattle.trace_text.specs.Reading.{are_decimals}

decimals_step : (digits : List ℕ) (i left : ℕ) → i < length digits
    → are_decimals (drop i digits) left ≡ (not (left == 0) && get_or digits i 0 == 48 + left * 10 / 64 && are_decimals (drop (i + 1) digits) (left * 10 % 64))
unfolding are_decimals
decimals_step digits i left h = rw (add-one, drop-cons digits i 0) refl

pub next_digit : (digits : List ℕ) (i left : ℕ) (all : Bool) → i < length digits → 0 < left → get_or digits i 0 ≡ 48 + left * 10 / 64
    → are_decimals (drop i digits) left ≡ all → are_decimals (drop (i + 1) digits) (left * 10 % 64) ≡ all
next_digit digits i left all h some same so_far =
    ap (λ z. not z && true && are_decimals (drop (i + 1) digits) (left * 10 % 64)) (sym (ne_eqb left 0 (omega arith)))
    ∙ ap (λ b. not (left == 0) && b && are_decimals (drop (i + 1) digits) (left * 10 % 64)) (sym (eq-eqb (get_or digits i 0) (48 + left * 10 / 64) same))
    ∙ sym (decimals_step digits i left h) ∙ so_far

pub no_digit : (digits : List ℕ) (i left : ℕ) (all : Bool) → i < length digits → left ≡ 0 → are_decimals (drop i digits) left ≡ all → false ≡ all
no_digit digits i left all h none so_far =
    ap (λ z. not z && get_or digits i 0 == 48 + left * 10 / 64 && are_decimals (drop (i + 1) digits) (left * 10 % 64)) (sym (eq-eqb left 0 none))
    ∙ sym (decimals_step digits i left h) ∙ so_far

and_false : (b : Bool) → false ≡ (b && false)
and_false true = refl
and_false false = refl

pub another_digit : (digits : List ℕ) (i left : ℕ) (all : Bool) → i < length digits → get_or digits i 0 ≢ 48 + left * 10 / 64
    → are_decimals (drop i digits) left ≡ all → false ≡ all
another_digit digits i left all h other so_far =
    ap (λ b. b && are_decimals (drop (i + 1) digits) (left * 10 % 64)) (and_false (not (left == 0)) ∙ ap (λ b. not (left == 0) && b) (sym (ne_eqb (get_or digits i 0) (48 + left * 10 / 64) other)))
    ∙ sym (decimals_step digits i left h) ∙ so_far

pub digits_end : (digits : List ℕ) (i left : ℕ) (all : Bool) → length digits ≤ i → are_decimals (drop i digits) left ≡ all → (left == 0) ≡ all
unfolding are_decimals
digits_end digits i left all past so_far = ap (λ ds. are_decimals ds left) (sym (drop_all i digits past)) ∙ so_far
