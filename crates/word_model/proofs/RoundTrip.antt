-- A number in decimal reads as itself.
use Rattle.std.proofs.Common.{◌≡◌, ℕ, zero, suc, ◌+◌, ◌-◌, ◌*◌, ◌/◌, ◌%◌, ◌^◌, ◌<◌, ◌≤◌, true, false, cond, not, ◌&&◌, nat_lt, nat_le, ltb, List, [], ◌∷◌, length, Some, None, refl, ap, sym, ◌∙◌, arith, subst, ◌⊎◌, inl, inr}
use Rattle.std.specs.List.{list_all}
use Rattle.std.proofs.lemmas.Bool.{ltb-true, ltb-false, lt-ltb, le-leb}
use Rattle.std.proofs.Math.Nat.{pow-suc}
use Rattle.std.proofs.lemmas.Grind.{common_steps}
use Rattle.word_model.specs.Names.{is_digit}
use Rattle.word_model.specs.Numbers.{begins_with, decimal_on, decimal, digits_value, at_most, is_whole, whole_of}
use Rattle.word_model.proofs.Values.{value_from, value_from_zero, not_above}
use Rattle.word_model.proofs.Decimals.{last_on, more_on}
use Rattle.word_model.proofs.Forms.{is_whole_is, whole_of_is}

pub split_ten : (m : ℕ) → (m < 10) ⊎ (10 ≤ m)
split_ten m = elim (ltb m 10) as (λ v. ltb m 10 ≡ v → (m < 10) ⊎ (10 ≤ m)) [ true ↦ λ e. inl (ltb-true m 10 e) | false ↦ λ e. inr (ltb-false m 10 e) ] refl

pub tenth : (m k : ℕ) → m < 10 ^ suc k → m / 10 < 10 ^ k
tenth m k g = let f : m < 10 ^ k * 10 = rw (pow-suc 10 k) at g in omega arith

-- what holds of digits in front of a text, by one digit after the other
pub by_digits : (P : ℕ → List ℕ → List ℕ → Type 0)
    → ((n : ℕ) (behind : List ℕ) → n < 10 → P n behind ((48 + n % 10) ∷ behind))
    → ((n : ℕ) (behind text : List ℕ) → 10 ≤ n → P (n / 10) ((48 + n % 10) ∷ behind) text → P n behind text)
    → (places n : ℕ) (behind : List ℕ) → n < 10 ^ suc places → P n behind (decimal_on (suc places) n behind)
by_digits P one more zero n behind h =
    let small : n < 10 = omega arith in
    subst (λ (t : List ℕ). P n behind t) (sym (last_on zero n behind small)) (one n behind small)
by_digits P one more (suc places) n behind h =
    elim (split_ten n) [
      | inl small ↦ subst (λ (t : List ℕ). P n behind t) (sym (last_on (suc places) n behind small)) (one n behind small)
      | inr large ↦ subst (λ (t : List ℕ). P n behind t) (sym (more_on (suc places) n behind large))
          (more n behind (decimal_on (suc places) (n / 10) ((48 + n % 10) ∷ behind)) large
          (by_digits P one more places (n / 10) ((48 + n % 10) ∷ behind) (tenth n (suc places) h)))
    ]

pub decimal_is : (n : ℕ) → decimal n ≡ decimal_on 39 n []
unfolding decimal
decimal_is n = refl

pub decimal_value : (n : ℕ) → n < 10 ^ 39 → digits_value (decimal n) ≡ n
decimal_value n h =
    ap digits_value (decimal_is n) ∙ value_from_zero (decimal_on 39 n [])
    ∙ by_digits (λ m rest text. value_from 0 text ≡ value_from m rest)
    (λ m rest small. let e : 0 * 10 + (48 + m % 10 - 48) ≡ m = omega arith in ap (λ v. value_from v rest) e)
    (λ m rest text large so_far. let e : m / 10 * 10 + (48 + m % 10 - 48) ≡ m = omega arith in so_far ∙ ap (λ v. value_from v rest) e)
    38 n [] h

pub digit_is : (n : ℕ) → is_digit (48 + n % 10) ≡ true
digit_is n = let low : 48 ≤ 48 + n % 10 = omega arith in let high : 48 + n % 10 ≤ 57 = omega arith in
    ap (λ b. b && nat_le (48 + n % 10) 57) (le-leb 48 (48 + n % 10) low) ∙ le-leb (48 + n % 10) 57 high

all_with : (n : ℕ) (rest : List ℕ) → list_all is_digit rest ≡ true → list_all is_digit ((48 + n % 10) ∷ rest) ≡ true
all_with n rest all = ap (λ b. b && list_all is_digit rest) (digit_is n) ∙ all

pub decimal_digits : (n : ℕ) → n < 10 ^ 39 → list_all is_digit (decimal n) ≡ true
decimal_digits n h =
    ap (list_all is_digit) (decimal_is n)
    ∙ by_digits (λ m rest text. list_all is_digit rest ≡ true → list_all is_digit text ≡ true)
    (λ m rest small all. all_with m rest all)
    (λ m rest text large so_far all. so_far (all_with m rest all))
    38 n [] h refl

no_zero : (n : ℕ) (rest : List ℕ) → 0 < n → n < 10 → begins_with 48 ((48 + n % 10) ∷ rest) ≡ false
unfolding begins_with
no_zero n rest some small = grind (arith, common_steps)

pub decimal_first : (n : ℕ) → n < 10 ^ 39 → 0 < n → begins_with 48 (decimal n) ≡ false
decimal_first n h some =
    ap (begins_with 48) (decimal_is n)
    ∙ by_digits (λ m rest text. 0 < m → begins_with 48 text ≡ false)
    (λ m rest small some. no_zero m rest some small)
    (λ m rest text large so_far some. so_far (omega arith))
    38 n [] h some

pub decimal_length : (n : ℕ) → n < 10 ^ 39 → 0 < length (decimal n)
decimal_length n h =
    subst (λ (t : List ℕ). 0 < length t) (sym (decimal_is n))
    (by_digits (λ m rest text. 0 < length text) (λ m rest small. omega arith) (λ m rest text large so_far. so_far) 38 n [] h)

zero_whole : is_whole (decimal 0) ≡ true
unfolding is_whole decimal
zero_whole = refl

some_whole : (text : List ℕ) → list_all is_digit text ≡ true → begins_with 48 text ≡ false → 0 < length text → is_whole text ≡ true
some_whole text all first some =
    is_whole_is text
    ∙ ap (λ b. b && list_all is_digit text && not (begins_with 48 text && nat_lt 1 (length text))) (lt-ltb 0 (length text) some)
    ∙ ap (λ b. b && not (begins_with 48 text && nat_lt 1 (length text))) all
    ∙ ap (λ b. not (b && nat_lt 1 (length text))) first

pub decimal_whole : (n : ℕ) → n < 10 ^ 39 → is_whole (decimal n) ≡ true
decimal_whole zero h = zero_whole
decimal_whole (suc n) h = some_whole (decimal (suc n)) (decimal_digits (suc n) h) (decimal_first (suc n) h (omega arith)) (decimal_length (suc n) h)

pub reads_back : (n : ℕ) → n ≤ 1000000000000 → whole_of (decimal n) ≡ Some n
reads_back n h =
    let small : n < 10 ^ 39 = omega arith in
    whole_of_is (decimal n)
    ∙ ap (λ b. cond b (at_most 1000000000000 (digits_value (decimal n))) None) (decimal_whole n small)
    ∙ ap (at_most 1000000000000) (decimal_value n small) ∙ not_above 1000000000000 n h
