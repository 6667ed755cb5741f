-- How many bytes readers take at the least; no text that is read as a length is shorter than the printed one.
use Rattle.std.proofs.Common.{◌≡◌, ℕ, zero, suc, ◌+◌, ◌-◌, ◌*◌, ◌/◌, ◌%◌, ◌<◌, ◌≤◌, ◌≢◌, Bool, true, false, cond, ◌==◌, nat_le, List, [], ◌∷◌, ◌++◌, length, refl, ap, sym, ◌∙◌, arith, subst, append-nil, length-append, ◌⊎◌, inl, inr}
use Rattle.std.specs.Prelude.{Ok, Err, codes}
use Rattle.std.proofs.lemmas.Bool.{leb-true, eqb-true, eqb-false, and_parts}
use Rattle.word_model.specs.Names.{is_digit}
use Rattle.word_model.specs.Numbers.{begins_with, decimal_on, decimal}
use Rattle.word_model.proofs.Decimals.{last_on, more_on}
use Rattle.word_model.proofs.RoundTrip.{split_ten}
use Rattle.script_model.specs.Readers.{◌>>=◌}
use Rattle.script_model.specs.Media.{Read, byte_at, word_at, is_blank, skip, gap_at, colon_at, says, with_digit, is_digit_under, digit_at, digits_at, whole_at, hundredths_at, fraction_at, length_at}
use Rattle.media_queries.specs.LengthText.{tenths_of, hundredths_of, last_digit, tenths_text, hundredths_text, length_text}
use Rattle.media_queries.proofs.DigitTexts.{apart}
use Rattle.media_queries.proofs.LengthAgain.{length_text_is, length_again}
use Rattle.media_queries.proofs.Readings.{OnValue, then_on, either_on, weaker_on}

-- Bytes.

abbrev pub Leaves : ℕ → List ℕ → List ℕ → Type 0
Leaves taken text rest = taken + length rest ≤ length text

pub byte_leaves : (byte : ℕ) (text : List ℕ) → OnValue (Leaves 1 text) (byte_at byte text)
unfolding byte_at
byte_leaves byte [] = tt
byte_leaves byte (b ∷ bs) = either_on (Leaves 1 (b ∷ bs)) (b == byte) (Ok bs) (Err (length (b ∷ bs))) (omega arith) tt

pub word_leaves : (word text : List ℕ) → OnValue (Leaves (length word) text) (word_at word text)
unfolding word_at
word_leaves [] text = omega arith
word_leaves (w ∷ ws) text =
    then_on (Leaves 1 text) (Leaves (suc (length ws)) text) (byte_at w text) (word_at ws) (byte_leaves w text)
    (λ rest h. weaker_on (Leaves (length ws) rest) (Leaves (suc (length ws)) text) (word_at ws rest) (word_leaves ws rest) (λ more g. omega arith))

pub skip_leaves : (text : List ℕ) → length (skip text) ≤ length text
unfolding skip
skip_leaves [] = omega arith
skip_leaves (b ∷ bs) = elim (is_blank b) as (λ blank. length (cond blank (skip bs) (b ∷ bs)) ≤ suc (length bs)) [
  | true ↦ (let h : length (skip bs) ≤ length bs = skip_leaves bs in omega arith)
  | false ↦ omega arith
]

pub gap_leaves : (text : List ℕ) → OnValue (Leaves 1 text) (gap_at text)
unfolding gap_at
gap_leaves [] = tt
gap_leaves (b ∷ bs) = either_on (Leaves 1 (b ∷ bs)) (is_blank b) (Ok (skip bs)) (Err (length (b ∷ bs))) (let h : length (skip bs) ≤ length bs = skip_leaves bs in omega arith) tt

pub colon_leaves : (text : List ℕ) → OnValue (Leaves 1 text) (colon_at text)
unfolding colon_at
colon_leaves text =
    let before : length (skip text) ≤ length text = skip_leaves text in
    then_on (Leaves 1 (skip text)) (Leaves 1 text) (byte_at 58 (skip text)) (λ rest. Ok (skip rest)) (byte_leaves 58 (skip text))
    (λ rest h. let after : length (skip rest) ≤ length rest = skip_leaves rest in omega arith)

pub says_leaves : {A : Type 0} → (P : A × List ℕ → Type 0) (word : List ℕ) (value : A) (text : List ℕ) → ((rest : List ℕ) → Leaves (length word) text rest → P (value, rest))
    → OnValue P (says word value text)
unfolding says
says_leaves P word value text h = then_on (Leaves (length word) text) P (word_at word text) (λ rest. Ok (value, rest)) (word_leaves word text) h

-- Lengths.

-- how many digits a number has, so many at the most
digits_in : ℕ → ℕ → ℕ
digits_in places number = length (decimal_on places number [])

few : (places n : ℕ) → n < 10 → digits_in (suc places) n ≡ 1
unfolding digits_in
few places n small = ap length (last_on places n [] small)

many : (places n : ℕ) → 10 ≤ n → digits_in (suc places) n ≡ digits_in places (n / 10) + 1
unfolding digits_in
many places n large =
    ap length (more_on places n [] large ∙ apart places (n / 10) ((48 + n % 10) ∷ [])) ∙ length-append (decimal_on places (n / 10) []) ((48 + n % 10) ∷ [])

none : (n : ℕ) → digits_in 0 n ≡ 0
unfolding digits_in decimal_on
none n = refl

rises : (places m n : ℕ) → m ≤ n → digits_in places m ≤ digits_in places n
rises zero m n h = let e = none m in let f = none n in omega (arith, e, f)
rises (suc places) m n h =
    elim (split_ten m) [
      | inl small ↦ elim (split_ten n) [
        | inl low ↦ omega (arith, few places m small, few places n low)
        | inr high ↦ omega (arith, few places m small, many places n high)
      ]
      | inr large ↦
          let high : 10 ≤ n = omega arith in
          let tens : digits_in places (m / 10) ≤ digits_in places (n / 10) = rises places (m / 10) (n / 10) (omega arith) in
          omega (arith, many places m large, many places n high)
    ]

wider : (places n : ℕ) → digits_in places n ≤ digits_in (suc places) n
wider zero n = omega (arith, none n)
wider (suc places) n =
    elim (split_ten n) [
      | inl small ↦ omega (arith, few places n small, few (suc places) n small)
      | inr large ↦
          let tens : digits_in places (n / 10) ≤ digits_in (suc places) (n / 10) = wider places (n / 10) in
          omega (arith, many places n large, many (suc places) n large)
    ]

one_more_digit : (places value d : ℕ) → d < 10 → digits_in (suc places) (value * 10 + d) ≤ digits_in (suc places) value + 1
one_more_digit places value d small =
    let number : ℕ = value * 10 + d in
    elim (split_ten number) [
      | inl low ↦ omega (arith, few places (value * 10 + d) low)
      | inr high ↦
          let same : (value * 10 + d) / 10 ≡ value = omega arith in
          let tens : digits_in places ((value * 10 + d) / 10) ≡ digits_in places value = ap (digits_in places) same in
          let more : digits_in places value ≤ digits_in (suc places) value = wider places value in
          omega (arith, many places (value * 10 + d) high)
    ]

-- a number that a digit gives under a cap
record Digit (most value b : ℕ) : Type 0 where
  small : b - 48 < 10
  under : with_digit value b ≤ most

digit_facts : (most value b : ℕ) → is_digit_under most value b ≡ true → Digit most value b
digit_facts most value b e =
    let parts : (is_digit b ≡ true) × (nat_le (with_digit value b) most ≡ true) = and_parts (is_digit b) (nat_le (with_digit value b) most) e in
    let range : (nat_le 48 b ≡ true) × (nat_le b 57 ≡ true) = and_parts (nat_le 48 b) (nat_le b 57) parts.0 in
    let low : 48 ≤ b = leb-true 48 b range.0 in
    let high : b ≤ 57 = leb-true b 57 range.1 in
    record { small = omega arith; under = leb-true (with_digit value b) most parts.1 }

-- so many digits at the most are needed for the number, and the others are left
pub record Number (most before : ℕ) (text : List ℕ) (read : ℕ × List ℕ) : Type 0 where
  pub under : read.0 ≤ most
  shorter : digits_in 39 read.0 + length read.1 ≤ before + length text

digits_facts : (places most value before : ℕ) (text : List ℕ) → value ≤ most → digits_in 39 value ≤ before → Number most before text (digits_at places most value text)
unfolding digits_at
digits_facts zero most value before text under few_enough = record { under = under; shorter = omega arith }
digits_facts (suc places) most value before [] under few_enough = record { under = under; shorter = omega arith }
digits_facts (suc places) most value before (b ∷ bs) under few_enough =
    elim (is_digit_under most value b) as (λ test. is_digit_under most value b ≡ test
    → Number most before (b ∷ bs) (cond test (digits_at places most (with_digit value b) bs) (value, b ∷ bs))) [
      | true ↦ λ e.
          let digit : Digit most value b = digit_facts most value b e in
          let more : digits_in 39 (with_digit value b) ≤ digits_in 39 value + 1 = one_more_digit 38 value (b - 48) digit.small in
          let next : Number most (before + 1) bs (digits_at places most (with_digit value b) bs) = digits_facts places most (with_digit value b) (before + 1) bs digit.under (omega arith) in
          record { under = next.under; shorter = (let h = next.shorter in omega (arith, h)) }
      | false ↦ λ e. record { under = under; shorter = omega arith }
    ] refl

abbrev first_of : Bool → ℕ → List ℕ → Read ℕ
first_of test b bs = cond test (Ok (with_digit 0 b, bs)) (Err (length (b ∷ bs)))

pub whole_facts : (text : List ℕ) → OnValue (Number 1000000 0 text) (whole_at text)
unfolding whole_at digit_at
whole_facts [] = tt
whole_facts (b ∷ bs) =
    elim (is_digit_under 1000000 0 b) as (λ test. is_digit_under 1000000 0 b ≡ test
    → OnValue (Number 1000000 0 (b ∷ bs)) (first_of test b bs >>= λ first. Ok (digits_at 6 1000000 first.0 first.1))) [
      | true ↦ λ e.
          let digit : Digit 1000000 0 b = digit_facts 1000000 0 b e in
          let small : with_digit 0 b < 10 = let h = digit.small in omega (arith, h) in
          let one : digits_in 39 (with_digit 0 b) ≡ 1 = few 38 (with_digit 0 b) small in
          let next : Number 1000000 1 bs (digits_at 6 1000000 (with_digit 0 b) bs) = digits_facts 6 1000000 (with_digit 0 b) 1 bs digit.under (omega arith) in
          record { under = next.under; shorter = (let h = next.shorter in omega (arith, h)) }
      | false ↦ λ e. tt
    ] refl

-- a whole part and its decimals: none, one or two
record Written (whole : ℕ) (text : List ℕ) (read : ℕ × List ℕ) : Type 0 where
  under : read.0 ≤ 100000000
  form : ((read.0 ≡ whole * 100) × (length read.1 ≤ length text))
      ⊎ (((tenths : ℕ) × (read.0 ≡ tenths * 10) × (tenths / 10 ≡ whole) × (2 + length read.1 ≤ length text))
      ⊎ ((read.0 / 100 ≡ whole) × (3 + length read.1 ≤ length text)))

hundredths_facts : (whole d : ℕ) (text before : List ℕ) → d < 10 → whole * 10 + d ≤ 10000000 → 2 + length text ≤ length before
    → Written whole before (hundredths_at (whole * 10 + d) text)
unfolding hundredths_at
hundredths_facts whole d [] before small under room =
    record { under = omega arith; form = inr (inl (whole * 10 + d, refl, omega arith, omega arith)) }
hundredths_facts whole d (b ∷ bs) before small under room =
    elim (is_digit_under 100000000 (whole * 10 + d) b) as (λ test. is_digit_under 100000000 (whole * 10 + d) b ≡ test
    → Written whole before (cond test (with_digit (whole * 10 + d) b, bs) ((whole * 10 + d) * 10, b ∷ bs))) [
      | true ↦ λ e.
          let digit : Digit 100000000 (whole * 10 + d) b = digit_facts 100000000 (whole * 10 + d) b e in
          let last : b - 48 < 10 = digit.small in
          record { under = digit.under; form = inr (inr (omega arith, omega arith)) }
      | false ↦ λ e. record { under = omega arith; form = inr (inl (whole * 10 + d, refl, omega arith, omega arith)) }
    ] refl

abbrev next_of : Bool → ℕ → ℕ → List ℕ → Read ℕ
next_of test whole b bs = cond test (Ok (with_digit whole b, bs)) (Err (length (b ∷ bs)))

point_facts : (whole : ℕ) (text before : List ℕ) → 1 + length text ≤ length before
    → OnValue (Written whole before) (digit_at 10000000 whole text >>= λ tenths. Ok (hundredths_at tenths.0 tenths.1))
unfolding digit_at
point_facts whole [] before room = tt
point_facts whole (b ∷ bs) before room =
    elim (is_digit_under 10000000 whole b) as (λ test. is_digit_under 10000000 whole b ≡ test
    → OnValue (Written whole before) (next_of test whole b bs >>= λ tenths. Ok (hundredths_at tenths.0 tenths.1))) [
      | true ↦ λ e.
          let digit : Digit 10000000 whole b = digit_facts 10000000 whole b e in
          hundredths_facts whole (b - 48) bs before digit.small digit.under (omega arith)
      | false ↦ λ e. tt
    ] refl

fraction_facts : (whole : ℕ) (text : List ℕ) → whole ≤ 1000000 → OnValue (Written whole text) (fraction_at whole text)
unfolding fraction_at
fraction_facts whole text within =
    either_on (Written whole text) (begins_with 46 text) (byte_at 46 text >>= λ rest. digit_at 10000000 whole rest >>= λ tenths. Ok (hundredths_at tenths.0 tenths.1)) (Ok (whole * 100, text))
    (then_on (Leaves 1 text) (Written whole text) (byte_at 46 text) (λ rest. digit_at 10000000 whole rest >>= λ tenths. Ok (hundredths_at tenths.0 tenths.1)) (byte_leaves 46 text)
    (λ rest h. point_facts whole rest text h))
    (record { under = omega arith; form = inl (refl, omega arith) })

-- the printed length

whole_long : (n : ℕ) (behind : List ℕ) → length (decimal n ++ behind) ≡ digits_in 39 n + length behind
unfolding decimal digits_in
whole_long n behind = length-append (decimal_on 39 n []) behind

tenths_long : (tenths : ℕ) → length (tenths_text tenths) ≡ digits_in 39 (tenths / 10) + 4
unfolding tenths_text
tenths_long tenths = whole_long (tenths / 10) (46 ∷ last_digit tenths ∷ codes "px")

hundredths_long : (number : ℕ) → length (hundredths_text number) ≡ digits_in 39 (number / 100) + 5
unfolding hundredths_text
hundredths_long number = whole_long (number / 100) (46 ∷ last_digit (number / 10) ∷ last_digit number ∷ codes "px")

printed_long : (units whole most : ℕ)
    → (units % 64 ≡ 0 → digits_in 39 (units / 64) + 2 ≤ most)
    → (units % 64 ≢ 0 → tenths_of units * 64 / 10 ≡ units → digits_in 39 (tenths_of units / 10) + 4 ≤ most)
    → (units % 64 ≢ 0 → tenths_of units * 64 / 10 ≢ units → digits_in 39 (hundredths_of units / 100) + 5 ≤ most)
    → length (length_text units) ≤ most
printed_long units whole most first second third =
    subst (λ (t : List ℕ). length t ≤ most) (sym (length_text_is units))
    (elim (units % 64 == 0) as (λ test. (units % 64 == 0) ≡ test
    → length (cond test (decimal (units / 64) ++ codes "px") (cond (tenths_of units * 64 / 10 == units) (tenths_text (tenths_of units)) (hundredths_text (hundredths_of units)))) ≤ most) [
      | true ↦ λ e. let h : digits_in 39 (units / 64) + 2 ≤ most = first (eqb-true (units % 64) 0 e) in omega (arith, whole_long (units / 64) (codes "px"))
      | false ↦ λ e. elim (tenths_of units * 64 / 10 == units) as (λ test. (tenths_of units * 64 / 10 == units) ≡ test
          → length (cond test (tenths_text (tenths_of units)) (hundredths_text (hundredths_of units))) ≤ most) [
            | true ↦ λ f. let h : digits_in 39 (tenths_of units / 10) + 4 ≤ most = second (eqb-false (units % 64) 0 e) (eqb-true (tenths_of units * 64 / 10) units f) in omega (arith, tenths_long (tenths_of units))
            | false ↦ λ f. let h : digits_in 39 (hundredths_of units / 100) + 5 ≤ most = third (eqb-false (units % 64) 0 e) (eqb-false (tenths_of units * 64 / 10) units f) in omega (arith, hundredths_long (hundredths_of units))
          ] refl
    ] refl)

whole_shortest : (whole : ℕ) → length (length_text (whole * 100 * 64 / 100)) ≤ digits_in 39 whole + 2
whole_shortest whole =
    let units : ℕ = whole * 100 * 64 / 100 in
    let whole_is : whole * 100 * 64 / 100 / 64 ≡ whole = omega arith in
    let e : digits_in 39 (whole * 100 * 64 / 100 / 64) ≡ digits_in 39 whole = ap (digits_in 39) whole_is in
    printed_long (whole * 100 * 64 / 100) whole (digits_in 39 whole + 2) (λ h. omega arith) (λ h. absurd (h (omega arith))) (λ h. absurd (h (omega arith)))

tenths_shortest : (tenths : ℕ) → length (length_text (tenths * 10 * 64 / 100)) ≤ digits_in 39 (tenths / 10) + 4
tenths_shortest tenths =
    let units : ℕ = tenths * 10 * 64 / 100 in
    printed_long (tenths * 10 * 64 / 100) (tenths / 10) (digits_in 39 (tenths / 10) + 4)
    (λ h. omega (arith, rises 39 (tenths * 10 * 64 / 100 / 64) (tenths / 10) (omega arith)))
    (λ h g. omega (arith, rises 39 (tenths_of (tenths * 10 * 64 / 100) / 10) (tenths / 10) (omega arith)))
    (λ h g. absurd (g (omega arith)))

hundredths_shortest : (number : ℕ) → length (length_text (number * 64 / 100)) ≤ digits_in 39 (number / 100) + 5
hundredths_shortest number =
    printed_long (number * 64 / 100) (number / 100) (digits_in 39 (number / 100) + 5)
    (λ h. omega (arith, rises 39 (number * 64 / 100 / 64) (number / 100) (omega arith)))
    (λ h g. omega (arith, rises 39 (tenths_of (number * 64 / 100) / 10) (number / 100) (omega arith)))
    (λ h g. omega (arith, rises 39 (hundredths_of (number * 64 / 100) / 100) (number / 100) (omega arith)))

-- a length is within the largest one, and its printed text isn't longer than what was read
pub record Shown (text : List ℕ) (read : ℕ × List ℕ) : Type 0 where
  pub within : read.0 ≤ 64000000
  pub shorter : length (length_text read.0) + length read.1 ≤ length text

shown : (whole : ℕ × List ℕ) (number : ℕ × List ℕ) (text rest : List ℕ) → Number 1000000 0 text whole → Written whole.0 whole.1 number → Leaves 2 number.1 rest
    → Shown text (number.0 * 64 / 100, rest)
shown whole number text rest w h g =
    let room : digits_in 39 whole.0 + length whole.1 ≤ 0 + length text = w.shorter in
    let most : number.0 ≤ 100000000 = h.under in
    record {
      within = omega arith;
      shorter = elim h.form [
        | inl none ↦
            let e : length (length_text (number.0 * 64 / 100)) ≡ length (length_text (whole.0 * 100 * 64 / 100)) = ap (λ n. length (length_text (n * 64 / 100))) none.0 in
            let behind : length number.1 ≤ length whole.1 = none.1 in
            omega (arith, whole_shortest whole.0)
        | inr some ↦ elim some [
          | inl one ↦
              let e : length (length_text (number.0 * 64 / 100)) ≡ length (length_text (one.0 * 10 * 64 / 100)) = ap (λ n. length (length_text (n * 64 / 100))) one.1 in
              let f : digits_in 39 (one.0 / 10) ≡ digits_in 39 whole.0 = ap (digits_in 39) one.2 in
              let behind : 2 + length number.1 ≤ length whole.1 = one.3 in
              omega (arith, tenths_shortest one.0)
          | inr two ↦
              let f : digits_in 39 (number.0 / 100) ≡ digits_in 39 whole.0 = ap (digits_in 39) two.0 in
              let behind : 3 + length number.1 ≤ length whole.1 = two.1 in
              omega (arith, hundredths_shortest number.0)
        ]
      ];
    }

pub length_shown : (text : List ℕ) → OnValue (Shown text) (length_at text)
unfolding length_at
length_shown text =
    then_on (Number 1000000 0 text) (Shown text) (whole_at text)
    (λ whole. fraction_at whole.0 whole.1 >>= λ number. word_at (codes "px") number.1 >>= λ rest. Ok (number.0 * 64 / 100, rest)) (whole_facts text)
    (λ whole w. then_on (Written whole.0 whole.1) (Shown text) (fraction_at whole.0 whole.1)
    (λ number. word_at (codes "px") number.1 >>= λ rest. Ok (number.0 * 64 / 100, rest)) (fraction_facts whole.0 whole.1 w.under)
    (λ number h. then_on (Leaves 2 number.1) (Shown text) (word_at (codes "px") number.1) (λ rest. Ok (number.0 * 64 / 100, rest)) (word_leaves (codes "px") number.1)
    (λ rest g. shown whole number text rest w h g)))

pub length_reads_back : (units : ℕ) → units ≤ 64000000 → length_at (length_text units) ≡ Ok (units, [])
length_reads_back units within = ap length_at (sym (append-nil (length_text units))) ∙ (length_again units [] within).read

pub no_shorter_length : (text : List ℕ) (units : ℕ) → length_at text ≡ Ok (units, []) → length (length_text units) ≤ length text
no_shorter_length text units e =
    let shown : Shown text (units, []) = subst (OnValue (Shown text)) e (length_shown text) in
    let short : length (length_text units) + 0 ≤ length text = shown.shorter in
    omega arith
