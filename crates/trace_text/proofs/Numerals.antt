-- Decimals that are read as the number that they write.
use Rattle.std.proofs.Common.{◌≡◌, ◌∙◌, refl, sym, ap, subst, ℕ, suc, ◌+◌, ◌-◌, ◌*◌, ◌/◌, ◌%◌, ◌^◌, ◌<◌, ◌≤◌, Bool, true, false, cond, not, ◌&&◌, nat_lt, nat_le, ltb, List, [], ◌∷◌, ◌++◌, length, Some, None, arith, append-nil}
use Rattle.std.specs.Prelude.{take_while, ◌==◌}
use Rattle.std.specs.List.{list_all}
use Rattle.std.proofs.Math.Nat.{pow-le-pow_right, mul-le-mul_left}
use Rattle.std.proofs.lemmas.Bool.{and_parts, eqb-true, leb-true, lt-ltb, ltb-true, ltb-false}
use Rattle.std.proofs.lemmas.List.Folds.{list_all-append}
use Rattle.std.proofs.lemmas.List.Sums.{take_while-cons}
use Rattle.std.proofs.lemmas.Grind.{common_steps}
use Rattle.word_model.specs.Names.{is_digit}
use Rattle.word_model.specs.Numbers.{begins_with, decimal_on, decimal, digits_value, at_most, is_whole, leading_digits, behind_digits}
use Rattle.word_model.proofs.Spelled.{digits_first}
use Rattle.word_model.proofs.Values.{value_from, value_from_zero, value_large, digit_range, not_above}
use Rattle.word_model.proofs.Decimals.{last_on, more_on}
use Rattle.word_model.proofs.Forms.{is_whole_is}
use Rattle.word_model.proofs.RoundTrip.{decimal_is, decimal_value, decimal_digits, decimal_whole}
use Rattle.script_model.specs.TraceText.{ratio_text}
use Rattle.trace_text.specs.Fields.{is_field_byte}
use Rattle.trace_text.specs.Reading.{◌>>=◌, number_of, over, ratio_of}
use Rattle.trace_text.proofs.Exact.{Exact, some_same, parts, chosen, run_of, behind_run}

-- ---- digits are those of the number that they write

-- digits behind a number that is read are written last
unread : (ds : List ℕ) (p v : ℕ) (behind : List ℕ) → list_all is_digit ds ≡ true → 0 < v → decimal_on (length ds + p) (value_from v ds) behind ≡ decimal_on p v (ds ++ behind)
unread [] p v behind all some = ap (λ n. decimal_on n v behind) (omega arith)
unread (d ∷ ds) p v behind all some =
    let digit : (48 ≤ d) × (d ≤ 57) = digit_range d (and_parts (is_digit d) (list_all is_digit ds) all).0 in
    let next : ℕ = v * 10 + (d - 48) in
    let tens : next / 10 ≡ v = omega arith in
    let ones : 48 + next % 10 ≡ d = omega arith in
    let places : length (d ∷ ds) + p ≡ length ds + suc p = omega arith in
    ap (λ n. decimal_on n (value_from next ds) behind) places
    ∙ unread ds (suc p) next behind (and_parts (is_digit d) (list_all is_digit ds) all).1 (omega arith)
    ∙ more_on p next (ds ++ behind) (omega arith)
    ∙ ap (λ n. decimal_on p n ((48 + next % 10) ∷ (ds ++ behind))) tens
    ∙ ap (λ x. decimal_on p v (x ∷ (ds ++ behind))) ones

short : (ds : List ℕ) (v : ℕ) → 0 < v → value_from v ds < 10 ^ 39 → length ds < 39
short ds v some h =
    elim (ltb (length ds) 39) as (λ b. ltb (length ds) 39 ≡ b → length ds < 39)
    [ true ↦ λ e. ltb-true (length ds) 39 e | false ↦ λ e. absurd (too_long (ltb-false (length ds) 39 e)) ] refl where
      too_long : 39 ≤ length ds → ⊥
      too_long long =
          let power : 10 ^ 39 ≤ 10 ^ length ds = pow-le-pow_right (omega arith) long in
          let larger : v * 10 ^ length ds ≤ value_from v ds = value_large ds v in
          let once : 10 ^ length ds * 1 ≤ 10 ^ length ds * v = mul-le-mul_left (10 ^ length ds) (omega arith) in
          omega arith

one_digit : (v : ℕ) → v < 10 → decimal v ≡ (48 + v) ∷ []
one_digit v h = let e : 48 + v % 10 ≡ 48 + v = omega arith in decimal_is v ∙ last_on 38 v [] h ∙ ap (λ x. x ∷ []) e

many_digits : (d : ℕ) (ds : List ℕ) → is_digit d ≡ true → list_all is_digit ds ≡ true → 48 < d → digits_value (d ∷ ds) < 10 ^ 39 → decimal (digits_value (d ∷ ds)) ≡ d ∷ ds
many_digits d ds first all some h =
    let range : (48 ≤ d) × (d ≤ 57) = digit_range d first in
    let v : ℕ = d - 48 in
    let begun : 0 * 10 + (d - 48) ≡ v = omega arith in
    let value : digits_value (d ∷ ds) ≡ value_from v ds = value_from_zero (d ∷ ds) ∙ ap (λ n. value_from n ds) begun in
    let few : length ds < 39 = short ds v (omega arith) (subst (λ (n : ℕ). n < 10 ^ 39) value h) in
    let places : 39 ≡ length ds + suc (38 - length ds) = omega arith in
    let last : 48 + v % 10 ≡ d = omega arith in
    ap decimal value ∙ decimal_is (value_from v ds)
    ∙ ap (λ n. decimal_on n (value_from v ds) []) places
    ∙ unread ds (suc (38 - length ds)) v [] all (omega arith)
    ∙ last_on (38 - length ds) v (ds ++ []) (omega arith)
    ∙ ap (λ x. x ∷ (ds ++ [])) last ∙ ap (λ x. d ∷ x) (append-nil ds)

leading : (b : Bool) (ds : List ℕ) (d : ℕ) → not (b && nat_lt 1 (length (d ∷ ds))) ≡ true → 0 < length ds → b ≡ false
leading true ds d h some = let e : nat_lt 1 (length (d ∷ ds)) ≡ true = lt-ltb 1 (length (d ∷ ds)) (omega arith) in absurd (let no : ⊥ = cc in no)
leading false ds d h some = refl

first_is : (d : ℕ) (ds : List ℕ) → is_digit d ≡ true → begins_with 48 (d ∷ ds) ≡ false → 48 < d
unfolding begins_with
first_is d ds digit h = grind (arith, common_steps, digit_range d digit)

pub whole_decimal : (text : List ℕ) → is_whole text ≡ true → digits_value text < 10 ^ 39 → decimal (digits_value text) ≡ text
whole_decimal [] whole h = absurd (let e : is_whole [] ≡ false = is_whole_is [] in let no : ⊥ = cc in no)
whole_decimal (d ∷ []) whole h =
    let both = and_parts (nat_lt 0 (length (d ∷ [])) && list_all is_digit (d ∷ [])) (not (begins_with 48 (d ∷ []) && nat_lt 1 (length (d ∷ [])))) (sym (is_whole_is (d ∷ [])) ∙ whole) in
    let all = and_parts (nat_lt 0 (length (d ∷ []))) (list_all is_digit (d ∷ [])) both.0 in
    let range : (48 ≤ d) × (d ≤ 57) = digit_range d (and_parts (is_digit d) true all.1).0 in
    let value : digits_value (d ∷ []) ≡ d - 48 = value_from_zero (d ∷ []) ∙ omega arith in
    let back : 48 + (d - 48) ≡ d = omega arith in
    ap decimal value ∙ one_digit (d - 48) (omega arith) ∙ ap (λ x. x ∷ []) back
whole_decimal (d ∷ e ∷ ds) whole h =
    let both = and_parts (nat_lt 0 (length (d ∷ e ∷ ds)) && list_all is_digit (d ∷ e ∷ ds)) (not (begins_with 48 (d ∷ e ∷ ds) && nat_lt 1 (length (d ∷ e ∷ ds)))) (sym (is_whole_is (d ∷ e ∷ ds)) ∙ whole) in
    let all = and_parts (nat_lt 0 (length (d ∷ e ∷ ds))) (list_all is_digit (d ∷ e ∷ ds)) both.0 in
    let digits = and_parts (is_digit d) (list_all is_digit (e ∷ ds)) all.1 in
    many_digits d (e ∷ ds) digits.0 digits.1 (first_is d (e ∷ ds) digits.0 (leading (begins_with 48 (d ∷ e ∷ ds)) (e ∷ ds) d both.1 (omega arith))) h

-- ---- readers of numbers

digit_field : (d : ℕ) → is_digit d ≡ true → is_field_byte d ≡ true
digit_field d h = let range : (48 ≤ d) × (d ≤ 57) = digit_range d h in lt-ltb 32 d (omega arith)

pub digits_field : (ds : List ℕ) → list_all is_digit ds ≡ true → list_all is_field_byte ds ≡ true
digits_field [] all = refl
digits_field (d ∷ ds) all =
    ap (λ b. b && list_all is_field_byte ds) (digit_field d (and_parts (is_digit d) (list_all is_digit ds) all).0)
    ∙ digits_field ds (and_parts (is_digit d) (list_all is_digit ds) all).1

pub at_most_some : (most v n : ℕ) → at_most most v ≡ Some n → (v ≤ most) × (v ≡ n)
unfolding at_most
at_most_some most v n h =
    let c : (nat_le v most ≡ true) × (Some v ≡ Some n) = chosen (nat_le v most) (Some v) n h in
    (leb-true v most c.0, some_same v n c.1)

pub number_exact : (most bound : ℕ) → most + 1 ≡ bound → bound ≤ 10 ^ 39 → Exact (number_of most) decimal (λ n. n < bound)
unfolding number_of
number_exact most bound e large = record {
  sound = λ field n h.
      let c : (is_whole field ≡ true) × (at_most most (digits_value field) ≡ Some n) = chosen (is_whole field) (at_most most (digits_value field)) n h in
      let v : (digits_value field ≤ most) × (digits_value field ≡ n) = at_most_some most (digits_value field) n c.1 in
      (ap decimal (sym v.1) ∙ whole_decimal field c.0 (omega arith), omega arith);
  complete = λ n h. (
    ap (λ b. cond b (at_most most (digits_value (decimal n))) None) (decimal_whole n (omega arith))
        ∙ ap (at_most most) (decimal_value n (omega arith)) ∙ not_above most n (omega arith),
    digits_field (decimal n) (decimal_digits n (omega arith)),
  );
}

-- ---- digits before another text

pub leading_first : (digits rest : List ℕ) → list_all is_digit digits ≡ true → take_while is_digit rest ≡ [] → leading_digits (digits ++ rest) ≡ digits
unfolding leading_digits
leading_first digits rest all stop = run_of is_digit digits rest all stop

pub behind_first : (digits rest : List ℕ) → list_all is_digit digits ≡ true → take_while is_digit rest ≡ [] → behind_digits (digits ++ rest) ≡ rest
unfolding behind_digits leading_digits
behind_first digits rest all stop = behind_run is_digit digits rest (run_of is_digit digits rest all stop)

-- ---- ratios

abbrev pub RatioFits : ℕ × ℕ → Type 0
RatioFits p = (p.0 < 2 ^ 128) × (p.1 < 2 ^ 128)

abbrev pub ratio_text_of : ℕ × ℕ → List ℕ
ratio_text_of p = ratio_text p.0 p.1

large : Exact (number_of (2 ^ 128 - 1)) decimal (λ n. n < 2 ^ 128)
large = number_exact (2 ^ 128 - 1) (2 ^ 128) refl (omega arith)

over_sound : (part : ℕ) (t : List ℕ) (p : ℕ × ℕ) → over part t ≡ Some p → (t ≡ 47 ∷ decimal p.1) × (part ≡ p.0) × (p.1 < 2 ^ 128)
unfolding over
over_sound part [] p h = absurd (let no : ⊥ = cc in no)
over_sound part (b ∷ bs) p h =
    let c = chosen (b == 47) (number_of (2 ^ 128 - 1) bs >>= λ whole. Some (part, whole)) p h in
    let w = parts (number_of (2 ^ 128 - 1) bs) (λ whole. Some (part, whole)) p c.1 in
    let e : (part, w.0) ≡ p = some_same _ p w.2 in
    let x : (decimal w.0 ≡ bs) × (w.0 < 2 ^ 128) = large.sound bs w.0 w.1 in
    let T : ℕ × ℕ → Type 0 = λ q. (b ∷ bs ≡ 47 ∷ decimal q.1) × (part ≡ q.0) × (q.1 < 2 ^ 128) in
    subst T e (ap (λ a. a ∷ bs) (eqb-true b 47 c.0) ∙ ap (λ ds. 47 ∷ ds) (sym x.0), refl, x.1)

slash_stops : (ds : List ℕ) → take_while is_digit (47 ∷ ds) ≡ []
slash_stops ds = take_while-cons is_digit 47 ds

pub ratio_exact : Exact ratio_of ratio_text_of RatioFits
unfolding ratio_of over ratio_text
ratio_exact = record {
  sound = λ field p h.
      let a = parts (number_of (2 ^ 128 - 1) (leading_digits field)) (λ part. over part (behind_digits field)) p h in
      let x : (decimal a.0 ≡ leading_digits field) × (a.0 < 2 ^ 128) = large.sound (leading_digits field) a.0 a.1 in
      let y : (behind_digits field ≡ 47 ∷ decimal p.1) × (a.0 ≡ p.0) × (p.1 < 2 ^ 128) = over_sound a.0 (behind_digits field) p a.2 in (
        ap (λ n. decimal n ++ (47 ∷ decimal p.1)) (sym y.1) ∙ ap (λ ds. ds ++ (47 ∷ decimal p.1)) x.0 ∙ ap (λ ds. leading_digits field ++ ds) (sym y.0) ∙ digits_first field,
        (subst (λ (n : ℕ). n < 2 ^ 128) y.1 x.1, y.2),
      );
  complete = λ p h.
      let front : list_all is_digit (decimal p.0) ≡ true = decimal_digits p.0 (omega arith) in
      let back : list_all is_digit (decimal p.1) ≡ true = decimal_digits p.1 (omega arith) in (
        ap (λ ds. number_of (2 ^ 128 - 1) ds >>= λ part. over part (behind_digits (decimal p.0 ++ (47 ∷ decimal p.1)))) (leading_first (decimal p.0) (47 ∷ decimal p.1) front (slash_stops (decimal p.1)))
            ∙ ap (λ o. o >>= λ part. over part (behind_digits (decimal p.0 ++ (47 ∷ decimal p.1)))) (large.complete p.0 h.0).0
            ∙ ap (over p.0) (behind_first (decimal p.0) (47 ∷ decimal p.1) front (slash_stops (decimal p.1)))
            ∙ ap (λ o. o >>= λ whole. Some (p.0, whole)) (large.complete p.1 h.1).0,
        list_all-append is_field_byte (decimal p.0) (47 ∷ decimal p.1)
            ∙ ap (λ b. b && list_all is_field_byte (47 ∷ decimal p.1)) (digits_field (decimal p.0) front) ∙ digits_field (decimal p.1) back,
      );
}
