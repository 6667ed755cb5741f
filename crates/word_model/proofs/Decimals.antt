-- Digits written from a buffer's end.
use Rattle.std.proofs.Common.{◌≡◌, ℕ, suc, ◌+◌, ◌/◌, ◌%◌, ◌<◌, ◌≤◌, cond, List, ◌∷◌, length, drop, set, ap, sym, ◌∙◌, arith, subst}
use Rattle.std.proofs.lemmas.Bool.{lt-ltb, le-ltb}
use Rattle.std.proofs.lemmas.List.{drop_all, drop-set}
use Rattle.word_model.specs.Numbers.{decimal_on, decimal}

pub decimal_at_end : (buffer : List ℕ) (value : ℕ) → length buffer ≡ 39 → decimal_on 39 value (drop 39 buffer) ≡ decimal value
unfolding decimal
decimal_at_end buffer value e = ap (λ behind. decimal_on 39 value behind) (drop_all 39 buffer (omega arith))

-- the last digit
pub last_on : (place number : ℕ) (behind : List ℕ) → number < 10 → decimal_on (suc place) number behind ≡ (48 + number % 10) ∷ behind
unfolding decimal_on
last_on place number behind h =
    let same : number ≡ number % 10 = omega arith in
    ap (λ b. cond b ((48 + number) ∷ behind) (decimal_on place (number / 10) ((48 + number % 10) ∷ behind))) (lt-ltb number 10 h)
    ∙ ap (λ n. (48 + n) ∷ behind) same

-- one more digit
pub more_on : (place number : ℕ) (behind : List ℕ) → 10 ≤ number → decimal_on (suc place) number behind ≡ decimal_on place (number / 10) ((48 + number % 10) ∷ behind)
unfolding decimal_on
more_on place number behind h =
    ap (λ b. cond b ((48 + number) ∷ behind) (decimal_on place (number / 10) ((48 + number % 10) ∷ behind))) (le-ltb number 10 h)

-- the first digit written, which is the last one of the loop
pub written : (buffer : List ℕ) (place after number value : ℕ) → after ≡ place + 1 → place < length buffer → number < 10
    → decimal_on after number (drop after buffer) ≡ decimal value → drop place (set buffer place (48 + number % 10)) ≡ decimal value
written buffer place after number value e inside small so_far =
    let f : decimal_on (suc place) number (drop (place + 1) buffer) ≡ decimal value = subst (λ (n : ℕ). decimal_on n number (drop (place + 1) buffer) ≡ decimal value) (omega arith) (subst (λ (n : ℕ). decimal_on n number (drop n buffer) ≡ decimal value) e so_far) in
    drop-set buffer place (48 + number % 10) inside ∙ sym (last_on place number (drop (place + 1) buffer) small) ∙ f

pub one_more : (buffer : List ℕ) (place after number value : ℕ) → after ≡ place + 1 → place < length buffer → 10 ≤ number
    → decimal_on after number (drop after buffer) ≡ decimal value
    → decimal_on place (number / 10) (drop place (set buffer place (48 + number % 10))) ≡ decimal value
one_more buffer place after number value e inside large so_far =
    let f : decimal_on (suc place) number (drop (place + 1) buffer) ≡ decimal value = subst (λ (n : ℕ). decimal_on n number (drop (place + 1) buffer) ≡ decimal value) (omega arith) (subst (λ (n : ℕ). decimal_on n number (drop n buffer) ≡ decimal value) e so_far) in
    ap (λ behind. decimal_on place (number / 10) behind) (drop-set buffer place (48 + number % 10) inside)
    ∙ sym (more_on place number (drop (place + 1) buffer) large) ∙ f

whole_buffer : (buffer : List ℕ) (number value : ℕ) → decimal_on 0 number (drop 0 buffer) ≡ decimal value → buffer ≡ decimal value
unfolding decimal_on
whole_buffer buffer number value e = e

pub full : (buffer : List ℕ) (place number value : ℕ) → place ≤ 0 → decimal_on place number (drop place buffer) ≡ decimal value
    → buffer ≡ decimal value
full buffer place number value none e =
    let zero_left : place ≡ 0 = omega arith in
    whole_buffer buffer number value (subst (λ (n : ℕ). decimal_on n number (drop n buffer) ≡ decimal value) zero_left e)
