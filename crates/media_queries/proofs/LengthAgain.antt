-- A printed length is read as this length.
use Rattle.std.proofs.Common.{◌≡◌, ℕ, ◌*◌, ◌/◌, ◌%◌, ◌^◌, ◌<◌, ◌≤◌, true, false, cond, ◌==◌, List, ◌∷◌, ◌++◌, length, refl, ap, sym, ◌∙◌, arith, subst, append_assoc}
use Rattle.std.specs.Prelude.{Ok, Err, codes}
use Rattle.std.proofs.lemmas.Bool.{eqb-true}
use Rattle.word_model.specs.Numbers.{decimal}
use Rattle.script_model.specs.Readers.{◌>>=◌}
use Rattle.script_model.specs.Media.{Read, with_digit, digit_at, hundredths_at, fraction_at, whole_at, word_at, length_at}
use Rattle.media_queries.specs.LengthText.{tenths_of, hundredths_of, last_digit, tenths_text, hundredths_text, length_text}
use Rattle.media_queries.proofs.DigitTexts.{digit_under, NoDigit, FirstDigit, first_digit, decimal_is, whole_again}

abbrev unit : List ℕ → List ℕ
unit tail = codes "px" ++ tail

no_fraction : (whole : ℕ) (tail : List ℕ) → fraction_at whole (unit tail) ≡ Ok (whole * 100, unit tail)
unfolding fraction_at
no_fraction whole tail = refl

digit_read : (most value b : ℕ) (bs : List ℕ) → 48 ≤ b → b ≤ 57 → with_digit value b ≤ most → digit_at most value (b ∷ bs) ≡ Ok (with_digit value b, bs)
unfolding digit_at
digit_read most value b bs low high within =
    ap (λ t. cond t (Ok (with_digit value b, bs)) (Err (length (b ∷ bs)))) (digit_under most value b low high within)

after_point : (whole b tenths : ℕ) (bs rest : List ℕ) → digit_at 10000000 whole (b ∷ bs) ≡ Ok (tenths, rest)
    → fraction_at whole (46 ∷ b ∷ bs) ≡ Ok (hundredths_at tenths rest)
unfolding fraction_at
after_point whole b tenths bs rest e = ap (λ (r : Read ℕ). r >>= λ tenths. Ok (hundredths_at tenths.0 tenths.1)) e

one_place : (tenths : ℕ) (tail : List ℕ) → hundredths_at tenths (unit tail) ≡ (tenths * 10, unit tail)
unfolding hundredths_at
one_place tenths tail = refl

two_places : (tenths b : ℕ) (bs : List ℕ) → 48 ≤ b → b ≤ 57 → with_digit tenths b ≤ 100000000 → hundredths_at tenths (b ∷ bs) ≡ (with_digit tenths b, bs)
unfolding hundredths_at
two_places tenths b bs low high within =
    ap (λ t. cond t (with_digit tenths b, bs) (tenths * 10, b ∷ bs)) (digit_under 100000000 tenths b low high within)

tenths_read : (tenths : ℕ) (tail : List ℕ) → tenths ≤ 10000000
    → fraction_at (tenths / 10) (46 ∷ last_digit tenths ∷ unit tail) ≡ Ok (tenths * 10, unit tail)
tenths_read tenths tail within =
    let same : with_digit (tenths / 10) (last_digit tenths) ≡ tenths = omega arith in
    after_point (tenths / 10) (last_digit tenths) (with_digit (tenths / 10) (last_digit tenths)) (unit tail) (unit tail)
    (digit_read 10000000 (tenths / 10) (last_digit tenths) (unit tail) (omega arith) (omega arith) (omega arith))
    ∙ ap (λ (r : ℕ × List ℕ). Ok r) (one_place (with_digit (tenths / 10) (last_digit tenths)) tail)
    ∙ ap (λ n. Ok (n * 10, unit tail)) same

hundredths_read : (number : ℕ) (tail : List ℕ) → number ≤ 100000000
    → fraction_at (number / 100) (46 ∷ last_digit (number / 10) ∷ last_digit number ∷ unit tail) ≡ Ok (number, unit tail)
hundredths_read number tail within =
    let tenths : ℕ = with_digit (number / 100) (last_digit (number / 10)) in
    let first : with_digit (number / 100) (last_digit (number / 10)) ≡ number / 10 = omega arith in
    let second : with_digit (with_digit (number / 100) (last_digit (number / 10))) (last_digit number) ≡ number = omega arith in
    after_point (number / 100) (last_digit (number / 10)) tenths (last_digit number ∷ unit tail) (last_digit number ∷ unit tail)
    (digit_read 10000000 (number / 100) (last_digit (number / 10)) (last_digit number ∷ unit tail) (omega arith) (omega arith) (omega arith))
    ∙ ap (λ (r : ℕ × List ℕ). Ok r) (two_places tenths (last_digit number) (unit tail) (omega arith) (omega arith) (omega arith))
    ∙ ap (λ n. Ok (n, unit tail)) second

length_by : (text rest tail : List ℕ) (whole number : ℕ) → whole_at text ≡ Ok (whole, rest) → fraction_at whole rest ≡ Ok (number, unit tail)
    → length_at text ≡ Ok (number * 64 / 100, tail)
unfolding length_at
length_by text rest tail whole number e f =
    ap (λ (r : Read ℕ). r >>= λ whole. fraction_at whole.0 whole.1 >>= λ number. word_at (codes "px") number.1 >>= λ rest. Ok (number.0 * 64 / 100, rest)) e
    ∙ ap (λ (r : Read ℕ). r >>= λ number. word_at (codes "px") number.1 >>= λ rest. Ok (number.0 * 64 / 100, rest)) f

-- a text that begins with a digit and is read as this length, with what stands behind it
pub record Reads (units : ℕ) (text tail : List ℕ) : Type 0 where
  pub first : FirstDigit (text ++ tail)
  pub read : length_at (text ++ tail) ≡ Ok (units, tail)

printed : (text fraction tail : List ℕ) (whole number units : ℕ) → text ≡ decimal whole ++ fraction → whole ≤ 1000000 → NoDigit (fraction ++ tail)
    → fraction_at whole (fraction ++ tail) ≡ Ok (number, unit tail) → number * 64 / 100 ≡ units → Reads units text tail
printed text fraction tail whole number units is within none read same =
    let joined : text ++ tail ≡ decimal whole ++ (fraction ++ tail) = ap (λ t. t ++ tail) is ∙ append_assoc (decimal whole) fraction tail in
    let big : whole < 10 ^ 39 = omega arith in
    record {
      first = subst FirstDigit (sym (joined ∙ decimal_is whole (fraction ++ tail))) (first_digit 38 whole (fraction ++ tail) big);
      read = ap length_at joined
          ∙ length_by (decimal whole ++ (fraction ++ tail)) (fraction ++ tail) tail whole number (whole_again whole (fraction ++ tail) within none) read
          ∙ ap (λ n. Ok (n, tail)) same;
    }

pub tenths_text_is : (tenths : ℕ) → tenths_text tenths ≡ decimal (tenths / 10) ++ (46 ∷ last_digit tenths ∷ codes "px")
unfolding tenths_text
tenths_text_is tenths = refl

pub hundredths_text_is : (number : ℕ) → hundredths_text number ≡ decimal (number / 100) ++ (46 ∷ last_digit (number / 10) ∷ last_digit number ∷ codes "px")
unfolding hundredths_text
hundredths_text_is number = refl

pub length_text_is : (units : ℕ) → length_text units
    ≡ cond (units % 64 == 0) (decimal (units / 64) ++ codes "px") (cond (tenths_of units * 64 / 10 == units) (tenths_text (tenths_of units)) (hundredths_text (hundredths_of units)))
unfolding length_text
length_text_is units = refl

pub length_again : (units : ℕ) (tail : List ℕ) → units ≤ 64000000 → Reads units (length_text units) tail
length_again units tail within =
    subst (λ text. Reads units text tail) (sym (length_text_is units))
    (elim (units % 64 == 0) as (λ whole. (units % 64 == 0) ≡ whole
    → Reads units (cond whole (decimal (units / 64) ++ codes "px") (cond (tenths_of units * 64 / 10 == units) (tenths_text (tenths_of units)) (hundredths_text (hundredths_of units)))) tail) [
      | true ↦ λ e.
          let none : units % 64 ≡ 0 = eqb-true (units % 64) 0 e in
          printed (decimal (units / 64) ++ codes "px") (codes "px") tail (units / 64) (units / 64 * 100) units refl (omega arith) refl (no_fraction (units / 64) tail) (omega arith)
      | false ↦ λ e. elim (tenths_of units * 64 / 10 == units) as (λ whole. (tenths_of units * 64 / 10 == units) ≡ whole
          → Reads units (cond whole (tenths_text (tenths_of units)) (hundredths_text (hundredths_of units))) tail) [
            | true ↦ λ f.
                let cut : tenths_of units * 64 / 10 ≡ units = eqb-true (tenths_of units * 64 / 10) units f in
                let tenths : ℕ = tenths_of units in
                printed (tenths_text tenths) (46 ∷ last_digit tenths ∷ codes "px") tail (tenths / 10) (tenths * 10) units (tenths_text_is tenths) (omega arith) refl (tenths_read tenths tail (omega arith)) (omega arith)
            | false ↦ λ f.
                let number : ℕ = hundredths_of units in
                printed (hundredths_text number) (46 ∷ last_digit (number / 10) ∷ last_digit number ∷ codes "px") tail (number / 100) number units (hundredths_text_is number) (omega arith) refl (hundredths_read number tail (omega arith)) (omega arith)
          ] refl
    ] refl)
