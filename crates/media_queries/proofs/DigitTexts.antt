-- A number's digits in front of a text are read as this number.
use Rattle.std.proofs.Common.{◌≡◌, ℕ, zero, suc, ◌+◌, ◌-◌, ◌*◌, ◌/◌, ◌%◌, ◌^◌, ◌<◌, ◌≤◌, true, false, cond, ◌&&◌, nat_le, List, [], ◌∷◌, ◌++◌, length, refl, ap, sym, ◌∙◌, arith, subst, append_assoc, inl, inr}
use Rattle.std.specs.Prelude.{Result, Ok, Err}
use Rattle.std.proofs.lemmas.Bool.{le-leb}
use Rattle.script_model.specs.Readers.{◌>>=◌}
use Rattle.word_model.specs.Names.{is_digit}
use Rattle.word_model.specs.Numbers.{decimal_on, decimal}
use Rattle.word_model.proofs.Decimals.{last_on, more_on}
use Rattle.word_model.proofs.RoundTrip.{split_ten, tenth, by_digits}
use Rattle.script_model.specs.Media.{with_digit, is_digit_under, digit_at, digits_at, whole_at}

pub apart : (places n : ℕ) (behind : List ℕ) → decimal_on places n behind ≡ decimal_on places n [] ++ behind
unfolding decimal_on
apart zero n behind = refl
apart (suc places) n behind =
    elim (split_ten n) [
      | inl small ↦ last_on places n behind small ∙ ap (λ l. l ++ behind) (sym (last_on places n [] small))
      | inr large ↦ more_on places n behind large ∙ apart places (n / 10) ((48 + n % 10) ∷ behind)
          ∙ sym (append_assoc (decimal_on places (n / 10) []) ((48 + n % 10) ∷ []) behind)
          ∙ ap (λ l. l ++ behind) (sym (apart places (n / 10) ((48 + n % 10) ∷ [])))
          ∙ ap (λ l. l ++ behind) (sym (more_on places n [] large))
    ]

-- Reading.

pub digit_under : (most value b : ℕ) → 48 ≤ b → b ≤ 57 → with_digit value b ≤ most → is_digit_under most value b ≡ true
digit_under most value b low high within =
    ap (λ t. (t && nat_le b 57) && nat_le (with_digit value b) most) (le-leb 48 b low)
    ∙ ap (λ t. t && nat_le (with_digit value b) most) (le-leb b 57 high) ∙ le-leb (with_digit value b) most within

digit_on : (places most value b : ℕ) (bs : List ℕ) → 48 ≤ b → b ≤ 57 → with_digit value b ≤ most
    → digits_at (suc places) most value (b ∷ bs) ≡ digits_at places most (with_digit value b) bs
unfolding digits_at
digit_on places most value b bs low high within =
    ap (λ t. cond t (digits_at places most (with_digit value b) bs) (value, b ∷ bs)) (digit_under most value b low high within)

-- no digit stands first
abbrev pub NoDigit : List ℕ → Type 0
NoDigit [] = Unit {0}
NoDigit (b ∷ bs) = is_digit b ≡ false

no_digit_on : (places most value : ℕ) (text : List ℕ) → NoDigit text → digits_at places most value text ≡ (value, text)
unfolding digits_at
no_digit_on zero most value text none = refl
no_digit_on (suc places) most value [] none = refl
no_digit_on (suc places) most value (b ∷ bs) none =
    ap (λ t. cond (t && nat_le (with_digit value b) most) (digits_at places most (with_digit value b) bs) (value, b ∷ bs)) none

-- digits of a number are read as this number, and so many may follow
Read : ℕ → ℕ → List ℕ → List ℕ → Type 0
Read most n behind text =
    (k left : ℕ) → n < 10 ^ suc k → suc k + left ≤ 7 → n ≤ most
    → (places : ℕ) × (left ≤ places) × (digits_at 7 most 0 text ≡ digits_at places most n behind)

one_read : (most n : ℕ) (behind : List ℕ) → n < 10 → Read most n behind ((48 + n % 10) ∷ behind)
unfolding Read
one_read most n behind small k left h fits within =
    let same : 0 * 10 + (48 + n % 10 - 48) ≡ n = omega arith in
    (6, omega arith, digit_on 6 most 0 (48 + n % 10) behind (omega arith) (omega arith) (omega arith) ∙ ap (λ v. digits_at 6 most v behind) same)

step_read : (most n left places : ℕ) (behind text : List ℕ) → n ≤ most → suc left ≤ places
    → digits_at 7 most 0 text ≡ digits_at places most (n / 10) ((48 + n % 10) ∷ behind)
    → (more : ℕ) × (left ≤ more) × (digits_at 7 most 0 text ≡ digits_at more most n behind)
step_read most n left zero behind text within room e = absurd (omega arith)
step_read most n left (suc places) behind text within room e =
    let same : n / 10 * 10 + (48 + n % 10 - 48) ≡ n = omega arith in
    (places, omega arith, e ∙ digit_on places most (n / 10) (48 + n % 10) behind (omega arith) (omega arith) (omega arith) ∙ ap (λ v. digits_at places most v behind) same)

more_read : (most n : ℕ) (behind text : List ℕ) → 10 ≤ n → Read most (n / 10) ((48 + n % 10) ∷ behind) text → Read most n behind text
unfolding Read
more_read most n behind text large so_far zero left h fits within = absurd (omega arith)
more_read most n behind text large so_far (suc k) left h fits within =
    let first = so_far k (suc left) (tenth n (suc k) h) (omega arith) (omega arith) in
    step_read most n left first.0 behind text within first.1 first.2

unfold_read : (most n : ℕ) (behind text : List ℕ) → Read most n behind text → (k left : ℕ) → n < 10 ^ suc k → suc k + left ≤ 7 → n ≤ most
    → (places : ℕ) × (left ≤ places) × (digits_at 7 most 0 text ≡ digits_at places most n behind)
unfolding Read
unfold_read most n behind text read = read

digits_read : (most places n : ℕ) (behind : List ℕ) → n < 10 ^ suc places → Read most n behind (decimal_on (suc places) n behind)
digits_read most places n behind h = by_digits (Read most) (one_read most) (more_read most) places n behind h

-- a digit stands first
abbrev pub FirstDigit : List ℕ → Type 0
FirstDigit text = (b : ℕ) × (bs : List ℕ) × (text ≡ b ∷ bs) × (48 ≤ b) × (b ≤ 57)

pub first_digit : (places n : ℕ) (behind : List ℕ) → n < 10 ^ suc places → FirstDigit (decimal_on (suc places) n behind)
first_digit places n behind h =
    by_digits (λ m rest text. FirstDigit text)
    (λ m rest small. (48 + m % 10, rest, refl, omega arith, omega arith))
    (λ m rest text large so_far. so_far)
    places n behind h

whole_of_first : (b : ℕ) (bs : List ℕ) → is_digit_under 1000000 0 b ≡ true → whole_at (b ∷ bs) ≡ Ok (digits_at 7 1000000 0 (b ∷ bs))
unfolding whole_at digit_at digits_at
whole_of_first b bs test =
    let first : digit_at 1000000 0 (b ∷ bs) ≡ Ok (with_digit 0 b, bs) = ap (λ t. cond t (Ok (with_digit 0 b, bs)) (Err (length (b ∷ bs)))) test in
    ap (λ (r : Result (ℕ × List ℕ) ℕ). r >>= λ read. Ok (digits_at 6 1000000 read.0 read.1)) first
    ∙ ap (λ t. Ok (cond t (digits_at 6 1000000 (with_digit 0 b) bs) (0, b ∷ bs))) (sym test)

whole_is : (text : List ℕ) → FirstDigit text → whole_at text ≡ Ok (digits_at 7 1000000 0 text)
whole_is text first =
    let small : with_digit 0 first.0 ≤ 1000000 = omega (arith, first.4) in
    subst (λ (t : List ℕ). whole_at t ≡ Ok (digits_at 7 1000000 0 t)) (sym first.2)
    (whole_of_first first.0 first.1 (digit_under 1000000 0 first.0 first.3 first.4 small))

pub decimal_is : (n : ℕ) (behind : List ℕ) → decimal n ++ behind ≡ decimal_on 39 n behind
unfolding decimal
decimal_is n behind = sym (apart 39 n behind)

pub whole_again : (n : ℕ) (behind : List ℕ) → n ≤ 1000000 → NoDigit behind → whole_at (decimal n ++ behind) ≡ Ok (n, behind)
whole_again n behind within none =
    let big : n < 10 ^ 39 = omega arith in
    let text : List ℕ = decimal_on 39 n behind in
    let read = unfold_read 1000000 n behind text (digits_read 1000000 38 n behind big) 6 0 (omega arith) (omega arith) within in
    ap whole_at (decimal_is n behind) ∙ whole_is text (first_digit 38 n behind big)
    ∙ ap (λ (r : ℕ × List ℕ). Ok r) (read.2 ∙ no_digit_on read.0 1000000 n behind none)
