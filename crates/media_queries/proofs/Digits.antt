-- The loop over digits, a step at a time.
use Rattle.std.proofs.Common.{◌≡◌, ℕ, suc, ◌+◌, ◌-◌, ◌<◌, ◌≤◌, Bool, true, false, cond, List, [], ◌∷◌, length, refl, sym, ◌∙◌, ap, arith}
use Rattle.std.specs.Prelude.{Result, Ok, Err}
use Rattle.script_model.specs.Media.{with_digit, is_digit_under, digit_at, digits_at}
use Rattle.media_queries.proofs.Turns.{one_less}

-- what a reader of one more digit makes of the digits behind it
then_digits : ℕ → ℕ → ℕ → List ℕ → Result (ℕ × List ℕ) ℕ → ℕ × List ℕ
then_digits places most value text (Ok read) = digits_at places most read.0 read.1
then_digits places most value text (Err left) = (value, text)

by_test : (test : Bool) (places most value b : ℕ) (bs : List ℕ) (left : ℕ)
    → cond test (digits_at places most (with_digit value b) bs) (value, b ∷ bs) ≡ then_digits places most value (b ∷ bs) (cond test (Ok (with_digit value b, bs)) (Err left))
unfolding then_digits
by_test true places most value b bs left = refl
by_test false places most value b bs left = refl

digits_are : (places most value : ℕ) (text : List ℕ) → digits_at (suc places) most value text ≡ then_digits places most value text (digit_at most value text)
unfolding then_digits digits_at digit_at
digits_are places most value [] = refl
digits_are places most value (b ∷ bs) = by_test (is_digit_under most value b) places most value b bs (length (b ∷ bs))

digits_step : (places i most value : ℕ) (text : List ℕ) (read : Result (ℕ × List ℕ) ℕ) (whole : ℕ × List ℕ) → i < places
    → digits_at (places - i) most value text ≡ whole → read ≡ digit_at most value text → then_digits (places - (i + 1)) most value text read ≡ whole
digits_step places i most value text read whole within so e =
    ap (λ (r : Result (ℕ × List ℕ) ℕ). then_digits (places - (i + 1)) most value text r) e
    ∙ sym (digits_are (places - (i + 1)) most value text)
    ∙ ap (λ n. digits_at n most value text) (sym (one_less places i within)) ∙ so

pub digits_on : (places i most value number : ℕ) (text rest : List ℕ) (whole : ℕ × List ℕ) → i < places
    → digits_at (places - i) most value text ≡ whole → Ok (number, rest) ≡ digit_at most value text → digits_at (places - (i + 1)) most number rest ≡ whole
unfolding then_digits
digits_on places i most value number text rest whole within so e = digits_step places i most value text (Ok (number, rest)) whole within so e

pub digits_stop : (places i most value left : ℕ) (text : List ℕ) (whole : ℕ × List ℕ) → i < places
    → digits_at (places - i) most value text ≡ whole → Err left ≡ digit_at most value text → (value, text) ≡ whole
unfolding then_digits
digits_stop places i most value left text whole within so e = digits_step places i most value text (Err left) whole within so e

digits_none : (most value : ℕ) (text : List ℕ) → digits_at 0 most value text ≡ (value, text)
unfolding digits_at
digits_none most value text = refl

no_more : (places i : ℕ) → places ≤ i → places - i ≡ 0
no_more places i all = omega arith

pub digits_end : (places i most value : ℕ) (text : List ℕ) (whole : ℕ × List ℕ) → places ≤ i
    → digits_at (places - i) most value text ≡ whole → (value, text) ≡ whole
digits_end places i most value text whole all so =
    sym (digits_none most value text) ∙ ap (λ n. digits_at n most value text) (sym (no_more places i all)) ∙ so
