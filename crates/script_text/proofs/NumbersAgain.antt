-- Printed percentages, numbers and lengths are read as the same values.
use Rattle.std.proofs.Common.{◌≡◌, ℕ, suc, ◌+◌, ◌-◌, ◌*◌, ◌/◌, ◌%◌, ◌^◌, ◌<◌, ◌≤◌, ℤ, pos, negsuc, Bool, true, false, cond, ◌&&◌, ◌==◌, nat_lt, nat_le, List, [], ◌∷◌, ◌++◌, length, drop, Some, None, refl, ap, sym, ◌∙◌, arith, subst, append_assoc}
use Rattle.std.specs.Prelude.{Option, option_map, unsigned_abs, bytes_eq, codes}
use Rattle.std.proofs.lemmas.Bool.{eqb-true, and_from}
use Rattle.word_model.specs.Numbers.{begins_with, unsigned, decimal, digits_value, leading_digits, fraction_digits, at_most, has_form, scaled, form_of, with_sign, signed_by, length_of, signed_of, percent_of, signed_percent_of, ten_thousandths_of, number_of}
use Rattle.word_model.proofs.Digits.{unsigned_is}
use Rattle.word_model.proofs.Forms.{form_of_is, has_form_is, length_of_is, percent_of_is, ten_thousandths_of_is}
use Rattle.media_queries.specs.LengthText.{tenths_of, hundredths_of, last_digit, tenths_text, hundredths_text, length_text}
use Rattle.word_model.proofs.RoundTrip.{digit_is, decimal_value, decimal_digits, decimal_length}
use Rattle.media_queries.proofs.LengthAgain.{length_text_is, tenths_text_is, hundredths_text_is}
use Rattle.script_text.specs.NumberText.{places_text, percent_text, with_minus, signed_text, signed_percent_text, number_text}
use Rattle.script_text.proofs.Decimals.{AreDigits, decimal_short}
use Rattle.script_text.proofs.FormParts.{IsUnit, pointed, HasParts, has_parts, form_is, scaled_value, form_read}
use Rattle.script_text.proofs.Places.{Written, written, pointed_unit, no_value}
use Rattle.script_text.proofs.WordBytes.{IsWord, IsNumeral, numeral, minus_word}

-- a text that is read so and begins with a digit
pub record Reads {A : Type 0} (of : List ℕ → Option A) (value : A) (text : List ℕ) : Type 0 where
  pub read : of text ≡ Some value
  pub numeral : IsNumeral text

pixels : IsUnit (codes "px")
unfolding begins_with
pixels = record { no_digit = refl; no_point = refl }

percent : IsUnit (codes "%")
unfolding begins_with
percent = record { no_digit = refl; no_point = refl }

no_unit : IsUnit []
unfolding begins_with
no_unit = record { no_digit = tt; no_point = refl }

-- Percentages.

pub percent_text_is : (hundredths : ℕ) → percent_text hundredths ≡ places_text 2 hundredths ++ codes "%"
unfolding percent_text
percent_text_is hundredths = refl

pub percent_spelled : (hundredths : ℕ) (w : Written 2 hundredths (places_text 2 hundredths)) → percent_text hundredths ≡ decimal w.whole ++ pointed w.fraction (codes "%")
percent_spelled hundredths w =
    percent_text_is hundredths ∙ ap (λ (t : List ℕ). t ++ codes "%") w.text_is ∙ append_assoc (decimal w.whole) (pointed w.fraction []) (codes "%")
    ∙ ap (λ (t : List ℕ). decimal w.whole ++ t) (pointed_unit w.fraction (codes "%"))

percent_parts : (hundredths : ℕ) (w : Written 2 hundredths (places_text 2 hundredths)) → w.whole < 10 ^ 39 → HasParts (decimal w.whole) w.fraction (codes "%") (percent_text hundredths)
percent_parts hundredths w small =
    subst (HasParts (decimal w.whole) w.fraction (codes "%")) (sym (percent_spelled hundredths w)) (has_parts (decimal w.whole) w.fraction (codes "%") (decimal_digits w.whole small) w.all percent)

pub percent_again : (hundredths : ℕ) → hundredths ≤ 1000000 → Reads percent_of hundredths (percent_text hundredths)
percent_again hundredths within =
    let w = written 2 hundredths in
    let value = w.value_is in
    let few : w.whole ≤ 10000 = omega arith in
    let small : w.whole < 10 ^ 39 = omega arith in
    record {
      read = percent_of_is (percent_text hundredths)
          ∙ form_read 1000000 7 2 hundredths (decimal w.whole) w.fraction (codes "%") (percent_text hundredths) (percent_parts hundredths w small)
          (decimal_length w.whole small) (decimal_short w.whole 6 small (omega arith)) w.short
          (ap (λ n. n * 10 ^ 2 + digits_value w.fraction * 10 ^ (2 - length w.fraction)) (decimal_value w.whole small) ∙ value) within;
      numeral = numeral w.whole w.fraction (codes "%") (percent_text hundredths) (percent_spelled hundredths w) small w.all refl refl;
    }

and_false : (x : Bool) → (x && false) ≡ false
and_false true = refl
and_false false = refl

no_form : (bound most places : ℕ) (digits fraction other unit text : List ℕ) → HasParts digits fraction other text → bytes_eq other unit ≡ false → form_of bound most places unit text ≡ None
no_form bound most places digits fraction other unit text parts differs =
    let before : Bool = nat_lt 0 (length (leading_digits text)) && nat_le (length (leading_digits text)) most && nat_le (length (fraction_digits text)) places in
    form_of_is bound most places unit text
    ∙ ap (λ t. cond t (at_most bound (scaled places text)) None)
    (has_form_is most places unit text ∙ ap (λ (u : List ℕ). before && bytes_eq u unit) parts.unit_is ∙ ap (λ t. before && t) differs ∙ and_false before)

-- a percentage is no length
pub percent_no_length : (hundredths : ℕ) → hundredths ≤ 1000000 → length_of (percent_text hundredths) ≡ None
percent_no_length hundredths within =
    let w = written 2 hundredths in
    let value = w.value_is in
    let few : w.whole ≤ 10000 = omega arith in
    length_of_is (percent_text hundredths)
    ∙ ap (option_map (λ h. h * 64 / 100)) (no_form 100000000 7 2 (decimal w.whole) w.fraction (codes "%") (codes "px") (percent_text hundredths) (percent_parts hundredths w (omega arith)) refl)

-- Numbers.

pub ten_thousandths_again : (number : ℕ) → number ≤ 9999999999999 → Reads ten_thousandths_of number (places_text 4 number)
ten_thousandths_again number within =
    let w = written 4 number in
    let value = w.value_is in
    let few : w.whole ≤ 999999999 = omega arith in
    let small : w.whole < 10 ^ 39 = omega arith in
    let text : List ℕ = decimal w.whole ++ pointed w.fraction [] in
    let parts = has_parts (decimal w.whole) w.fraction [] (decimal_digits w.whole small) w.all no_unit in
    let form : has_form 9 4 [] text ≡ true =
    form_is 9 4 (decimal w.whole) w.fraction [] text parts (decimal_length w.whole small) (decimal_short w.whole 8 small (omega arith)) w.short in
    record {
      read = ap ten_thousandths_of w.text_is ∙ ten_thousandths_of_is text
          ∙ ap (λ t. cond t (Some (scaled 4 text)) None) form
          ∙ ap (λ n. Some n) (scaled_value 4 (decimal w.whole) w.fraction [] text parts
          ∙ ap (λ n. n * 10 ^ 4 + digits_value w.fraction * 10 ^ (4 - length w.fraction)) (decimal_value w.whole small) ∙ value);
      numeral = numeral w.whole w.fraction [] (places_text 4 number) w.text_is small w.all refl refl;
    }

-- Lengths.

length_reads : (whole hundredths units : ℕ) (fraction text : List ℕ) → text ≡ decimal whole ++ pointed fraction (codes "px") → AreDigits fraction → length fraction ≤ 2 → whole ≤ 1000000
    → whole * 100 + digits_value fraction * 10 ^ (2 - length fraction) ≡ hundredths → hundredths ≤ 100000000 → hundredths * 64 / 100 ≡ units → Reads length_of units text
length_reads whole hundredths units fraction text is all short few value within same =
    let small : whole < 10 ^ 39 = omega arith in
    let spelled : List ℕ = decimal whole ++ pointed fraction (codes "px") in
    let parts = has_parts (decimal whole) fraction (codes "px") (decimal_digits whole small) all pixels in
    record {
      read = ap length_of is ∙ length_of_is spelled
          ∙ ap (option_map (λ h. h * 64 / 100)) (form_read 100000000 7 2 hundredths (decimal whole) fraction (codes "px") spelled parts
          (decimal_length whole small) (decimal_short whole 6 small (omega arith)) short
          (ap (λ n. n * 10 ^ 2 + digits_value fraction * 10 ^ (2 - length fraction)) (decimal_value whole small) ∙ value) within)
          ∙ ap (λ n. Some n) same;
      numeral = numeral whole fraction (codes "px") text is small all refl refl;
    }

pub one_value : (d : ℕ) → digits_value (d ∷ []) ≡ d - 48
unfolding digits_value
one_value d = omega arith

pub two_value : (d e : ℕ) → digits_value (d ∷ e ∷ []) ≡ (d - 48) * 10 + (e - 48)
unfolding digits_value
two_value d e = omega arith

pub digit_all : (n : ℕ) (ds : List ℕ) → AreDigits ds → AreDigits (last_digit n ∷ ds)
digit_all n ds all = and_from _ _ (digit_is n) all

whole_again : (units : ℕ) → units ≤ 64000000 → units % 64 ≡ 0 → Reads length_of units (decimal (units / 64) ++ codes "px")
whole_again units within none =
    length_reads (units / 64) (units / 64 * 100) units [] (decimal (units / 64) ++ codes "px") refl refl (omega arith) (omega arith) (omega (arith, no_value)) (omega arith) (omega arith)

tenths_again : (units : ℕ) → units ≤ 64000000 → tenths_of units * 64 / 10 ≡ units → Reads length_of units (tenths_text (tenths_of units))
tenths_again units within cut =
    let tenths : ℕ = tenths_of units in
    length_reads (tenths / 10) (tenths * 10) units (last_digit tenths ∷ []) (tenths_text tenths) (tenths_text_is tenths) (digit_all tenths [] refl) (omega arith) (omega arith)
    (omega (arith, one_value (last_digit tenths))) (omega arith) (omega arith)

hundredths_again : (units : ℕ) → units ≤ 64000000 → Reads length_of units (hundredths_text (hundredths_of units))
hundredths_again units within =
    let number : ℕ = hundredths_of units in
    length_reads (number / 100) number units (last_digit (number / 10) ∷ last_digit number ∷ []) (hundredths_text number) (hundredths_text_is number)
    (digit_all (number / 10) (last_digit number ∷ []) (digit_all number [] refl)) (omega arith) (omega arith)
    (omega (arith, two_value (last_digit (number / 10)) (last_digit number))) (omega arith) (omega arith)

pub length_again : (units : ℕ) → units ≤ 64000000 → Reads length_of units (length_text units)
length_again units within =
    subst (Reads length_of units) (sym (length_text_is units))
    (elim (units % 64 == 0) as (λ none. (units % 64 == 0) ≡ none
    → Reads length_of units (cond none (decimal (units / 64) ++ codes "px") (cond (tenths_of units * 64 / 10 == units) (tenths_text (tenths_of units)) (hundredths_text (hundredths_of units))))) [
      | true ↦ λ e. whole_again units within (eqb-true (units % 64) 0 e)
      | false ↦ λ e. elim (tenths_of units * 64 / 10 == units) as (λ cut. (tenths_of units * 64 / 10 == units) ≡ cut
          → Reads length_of units (cond cut (tenths_text (tenths_of units)) (hundredths_text (hundredths_of units)))) [
            | true ↦ λ f. tenths_again units within (eqb-true (tenths_of units * 64 / 10) units f)
            | false ↦ λ f. hundredths_again units within
          ] refl
    ] refl)

-- A sign.

pub signed_by_is : (of : List ℕ → Option ℕ) (text : List ℕ) → signed_by of text ≡ option_map (with_sign (begins_with 45 text)) (of (unsigned text))
unfolding signed_by
signed_by_is of text = refl

plus_read : (of : List ℕ → Option ℕ) (number : ℕ) (text : List ℕ) → Reads of number text → signed_by of text ≡ Some (pos number)
unfolding with_sign
plus_read of number text reads =
    signed_by_is of text
    ∙ ap (λ (t : List ℕ). option_map (with_sign (begins_with 45 text)) (of t)) (unsigned_is text ∙ ap (λ b. cond b (drop 1 text) text) reads.numeral.no_minus)
    ∙ ap (λ b. option_map (with_sign b) (of text)) reads.numeral.no_minus
    ∙ ap (option_map (with_sign false)) reads.read

minus_read : (of : List ℕ → Option ℕ) (number : ℕ) (text : List ℕ) → of text ≡ Some (suc number) → signed_by of (45 ∷ text) ≡ Some (negsuc number)
unfolding signed_by with_sign begins_with unsigned
minus_read of number text read = ap (option_map (with_sign true)) read

minus_none : (of : List ℕ → Option ℕ) (text : List ℕ) → of text ≡ None → signed_by of (45 ∷ text) ≡ None
unfolding signed_by with_sign begins_with unsigned
minus_none of text none = ap (option_map (with_sign true)) none

-- a text with an optional `-` before a word that begins with a digit
pub record SignedReads (of : List ℕ → Option ℤ) (value : ℤ) (text : List ℕ) : Type 0 where
  pub read : of text ≡ Some value
  pub word : IsWord text
  pub low : word.first ≤ 57

sign_again : (of : List ℕ → Option ℕ) (number : ℤ) (text : List ℕ) → Reads of (unsigned_abs number) text → SignedReads (signed_by of) number (with_minus number text)
sign_again of (pos n) text reads = record { read = plus_read of n text reads; word = reads.numeral.word; low = reads.numeral.low }
sign_again of (negsuc n) text reads = record { read = minus_read of n text reads.read; word = minus_word text reads.numeral.word; low = omega arith }

pub signed_again : (units : ℤ) → unsigned_abs units ≤ 64000000 → SignedReads signed_of units (signed_text units)
unfolding signed_of signed_text
signed_again units within = sign_again length_of units (length_text (unsigned_abs units)) (length_again (unsigned_abs units) within)

pub signed_percent_again : (hundredths : ℤ) → unsigned_abs hundredths ≤ 1000000 → SignedReads signed_percent_of hundredths (signed_percent_text hundredths)
unfolding signed_percent_of signed_percent_text
signed_percent_again hundredths within = sign_again percent_of hundredths (percent_text (unsigned_abs hundredths)) (percent_again (unsigned_abs hundredths) within)

none_signed : (of : List ℕ → Option ℕ) (number : ℤ) (text : List ℕ) → IsNumeral text → of text ≡ None → signed_by of (with_minus number text) ≡ None
none_signed of (pos n) text numeral none =
    signed_by_is of text
    ∙ ap (λ (t : List ℕ). option_map (with_sign (begins_with 45 text)) (of t)) (unsigned_is text ∙ ap (λ b. cond b (drop 1 text) text) numeral.no_minus)
    ∙ ap (option_map (with_sign (begins_with 45 text))) none
none_signed of (negsuc n) text numeral none = minus_none of text none

-- a percentage with a sign is no length
pub signed_percent_no_length : (hundredths : ℤ) → unsigned_abs hundredths ≤ 1000000 → signed_of (signed_percent_text hundredths) ≡ None
unfolding signed_of signed_percent_text
signed_percent_no_length hundredths within =
    none_signed length_of hundredths (percent_text (unsigned_abs hundredths)) (percent_again (unsigned_abs hundredths) within).numeral (percent_no_length (unsigned_abs hundredths) within)

pub number_again : (number : ℤ) → unsigned_abs number ≤ 9999999999999 → SignedReads number_of number (number_text number)
unfolding number_of number_text
number_again number within = sign_again ten_thousandths_of number (places_text 4 (unsigned_abs number)) (ten_thousandths_again (unsigned_abs number) within)
