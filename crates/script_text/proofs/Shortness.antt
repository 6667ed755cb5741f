-- No text that is read as a length, a percentage or a number is shorter than the printed one.
use Rattle.std.proofs.Common.{◌≡◌, ℕ, zero, suc, ◌+◌, ◌-◌, ◌*◌, ◌/◌, ◌%◌, ◌^◌, ◌<◌, ◌≤◌, ℤ, pos, negsuc, Bool, true, false, cond, ◌==◌, nat_le, List, [], ◌∷◌, ◌++◌, length, drop, Some, None, refl, ap, sym, ◌∙◌, arith, subst, length-append, append_assoc, ◌⊎◌, inl, inr}
use Rattle.std.specs.Prelude.{Option, option_map, unsigned_abs, take_while, codes}
use Rattle.std.proofs.lemmas.Bool.{and_parts, ltb-true, leb-true, leb-false, eqb-true, eqb-false, ne_eqb}
use Rattle.std.proofs.lemmas.List.Sums.{take_while-cons}
use Rattle.std.proofs.Math.Nat.{pow-suc}
use Rattle.std.proofs.lemmas.Slice.Eq.{bytes_eq-Decides}
use Rattle.std.proofs.lemmas.Bool.Decides.{nat_tests}
use Rattle.word_model.specs.Names.{is_digit}
use Rattle.word_model.specs.Numbers.{begins_with, unsigned, decimal, digits_value, leading_digits, behind_digits, fraction_digits, unit_of, spelled, has_form, scaled, at_most, form_of, with_sign, signed_by, length_of, signed_of, percent_of, signed_percent_of, ten_thousandths_of, number_of}
use Rattle.word_model.proofs.Digits.{unsigned_is, point_digits_are}
use Rattle.word_model.proofs.Forms.{form_of_is, has_form_is, scaled_is, length_of_is, percent_of_is, ten_thousandths_of_is}
use Rattle.word_model.proofs.Values.{value_from, value_from_zero, value_small, nine_digits, leading_all}
use Rattle.word_model.proofs.Spelled.{spelled_again}
use Rattle.media_queries.specs.LengthText.{tenths_of, hundredths_of, last_digit, tenths_text, hundredths_text, length_text}
use Rattle.script_text.specs.NumberText.{all_places, places_text, percent_text, with_minus, signed_text, signed_percent_text, number_text}
use Rattle.script_text.proofs.Decimals.{AreDigits, decimal_short}
use Rattle.script_text.proofs.FormParts.{pointed}
use Rattle.script_text.proofs.Places.{zero_text, suc_text, places_zero, places_suc}
use Rattle.media_queries.proofs.LengthAgain.{length_text_is, tenths_text_is, hundredths_text_is}
use Rattle.script_text.proofs.NumbersAgain.{percent_text_is, signed_by_is}

-- What a text that is read has.

-- the bytes of a fraction with its point
abbrev pub pointed_long : ℕ → ℕ
pointed_long places = cond (places == 0) 0 (suc places)

pub record FormRead (most places number : ℕ) (unit text : List ℕ) : Type 0 where
  pub digits : List ℕ
  pub fraction : List ℕ
  pub all : AreDigits digits
  pub all_behind : AreDigits fraction
  pub some : 0 < length digits
  pub few : length digits ≤ most
  pub short : length fraction ≤ places
  pub text_is : text ≡ digits ++ pointed fraction unit
  pub value_is : digits_value digits * 10 ^ places + digits_value fraction * 10 ^ (places - length fraction) ≡ number
  pub long : length text ≡ length digits + pointed_long (length fraction) + length unit

no_sign : (text : List ℕ) → 0 < length (leading_digits text) → begins_with 45 text ≡ false
unfolding leading_digits begins_with
no_sign [] h = refl
no_sign (b ∷ bs) h = chosen (is_digit b) refl where
  digit : (b : ℕ) → is_digit b ≡ true → (b == 45) ≡ false
  digit b e = grind (arith, nat_tests)

  chosen : (test : Bool) → is_digit b ≡ test → (b == 45) ≡ false
  chosen true e = digit b e
  chosen false e =
      let none : take_while is_digit (b ∷ bs) ≡ [] = take_while-cons is_digit b bs ∙ ap (λ t. cond t (b ∷ take_while is_digit bs) []) e in
      let long = ap length none in absurd (omega arith)

fraction_long : (fraction : List ℕ) → length (cond (length fraction == 0) [] (46 ∷ fraction)) ≡ pointed_long (length fraction)
fraction_long fraction = by_test (length fraction == 0) where
  by_test : (test : Bool) → length (cond test [] (46 ∷ fraction)) ≡ cond test 0 (suc (length fraction))
  by_test true = refl
  by_test false = refl

spelled_pointed : (digits fraction unit : List ℕ) → spelled false digits fraction unit ≡ digits ++ pointed fraction unit
spelled_pointed digits [] unit = simp append_assoc
spelled_pointed digits (d ∷ ds) unit =
    ap (λ (t : Bool). digits ++ cond t [] (46 ∷ d ∷ ds) ++ unit) (ne_eqb (length (d ∷ ds)) 0 (λ e. omega arith)) ∙ append_assoc digits (46 ∷ d ∷ ds) unit

spelled_long : (digits fraction unit : List ℕ) → length (spelled false digits fraction unit) ≡ length digits + pointed_long (length fraction) + length unit
spelled_long digits fraction unit =
    let f = fraction_long fraction in
    simp length-append (omega (arith, f))

fraction_all : (text : List ℕ) → AreDigits (fraction_digits text)
fraction_all text = subst AreDigits (sym (point_digits_are (behind_digits text))) (by_test (begins_with 46 (behind_digits text))) where
  by_test : (test : Bool) → AreDigits (cond test (leading_digits (drop 1 (behind_digits text))) [])
  by_test true = leading_all (drop 1 (behind_digits text))
  by_test false = refl

pub form_read : (most places : ℕ) (unit text : List ℕ) → has_form most places unit text ≡ true → FormRead most places (scaled places text) unit text
form_read most places unit text h =
    let parts = and_parts _ _ (sym (has_form_is most places unit text) ∙ h) in
    let front = and_parts _ _ parts.0 in
    let counts = and_parts _ _ front.0 in
    let some : 0 < length (leading_digits text) = ltb-true 0 (length (leading_digits text)) counts.0 in
    let sign : begins_with 45 text ≡ false = no_sign text some in
    let bare : unsigned text ≡ text = unsigned_is text ∙ ap (λ b. cond b (drop 1 text) text) sign in
    let unit_is : unit_of text ≡ unit = (bytes_eq-Decides (unit_of text) unit).0 parts.1 in
    let whole : spelled false (leading_digits text) (fraction_digits text) unit ≡ text =
    ap (λ (u : List ℕ). spelled false (leading_digits text) (fraction_digits text) u) (sym unit_is)
    ∙ ap (λ (b : Bool). spelled b (leading_digits text) (fraction_digits text) (unit_of text)) (sym sign)
    ∙ ap (λ (t : List ℕ). spelled (begins_with 45 text) (leading_digits t) (fraction_digits t) (unit_of t)) (sym bare)
    ∙ spelled_again text in
    record {
      digits = leading_digits text;
      fraction = fraction_digits text;
      all = leading_all text;
      all_behind = fraction_all text;
      some = some;
      few = leb-true (length (leading_digits text)) most counts.1;
      short = leb-true (length (fraction_digits text)) places front.1;
      text_is = sym whole ∙ spelled_pointed (leading_digits text) (fraction_digits text) unit;
      value_is = sym (scaled_is places text);
      long = sym (ap length whole) ∙ spelled_long (leading_digits text) (fraction_digits text) unit;
    }

within_bound : (bound number value : ℕ) → at_most bound number ≡ Some value → number ≡ value
unfolding at_most
within_bound bound number value h = by_test (nat_le number bound) h where
  by_test : (test : Bool) → cond test (Some number) None ≡ Some value → number ≡ value
  by_test true e = cc
  by_test false e = absurd cc

under : (bound number value : ℕ) → at_most bound number ≡ Some value → value ≤ bound
unfolding at_most
under bound number value h = by_test (nat_le number bound) refl h where
  by_test : (test : Bool) → nat_le number bound ≡ test → cond test (Some number) None ≡ Some value → value ≤ bound
  by_test true t e = let same : number ≡ value = cc in let f = leb-true number bound t in omega arith
  by_test false t e = absurd cc

pub form_found : (bound most places number : ℕ) (unit text : List ℕ) → form_of bound most places unit text ≡ Some number → FormRead most places number unit text
form_found bound most places number unit text h = by_test (has_form most places unit text) refl (sym (form_of_is bound most places unit text) ∙ h) where
  by_test : (test : Bool) → has_form most places unit text ≡ test → cond test (at_most bound (scaled places text)) None ≡ Some number → FormRead most places number unit text
  by_test true e f = subst (λ (n : ℕ). FormRead most places n unit text) (within_bound bound (scaled places text) number f) (form_read most places unit text e)
  by_test false e f = absurd cc

pub in_bound : (bound most places number : ℕ) (unit text : List ℕ) → form_of bound most places unit text ≡ Some number → number ≤ bound
in_bound bound most places number unit text h = by_test (has_form most places unit text) (sym (form_of_is bound most places unit text) ∙ h) where
  by_test : (test : Bool) → cond test (at_most bound (scaled places text)) None ≡ Some number → number ≤ bound
  by_test true f = under bound (scaled places text) number f
  by_test false f = absurd cc

-- Digits.

decimal_fits : (places n : ℕ) → 0 < places → n < 10 ^ places → n < 10 ^ 39 → length (decimal n) ≤ places
decimal_fits zero n some fits small = absurd (omega arith)
decimal_fits (suc k) n some fits small = decimal_short n k small fits

pub digits_short : (digits : List ℕ) → AreDigits digits → 0 < length digits → length digits ≤ 9 → length (decimal (digits_value digits)) ≤ length digits
digits_short digits all some few =
    let small : digits_value digits ≤ 999999999 = nine_digits digits all few in
    let from : value_from 0 digits < 1 * 10 ^ length digits = value_small digits (length digits) 0 1 all (omega arith) (omega arith) in
    let e : digits_value digits ≡ value_from 0 digits = value_from_zero digits in
    decimal_fits (length digits) (digits_value digits) some (omega arith) (omega arith)

pub fraction_small : (digits : List ℕ) → AreDigits digits → digits_value digits < 10 ^ length digits
fraction_small digits all =
    let from : value_from 0 digits < 1 * 10 ^ length digits = value_small digits (length digits) 0 1 all (omega arith) (omega arith) in
    let e : digits_value digits ≡ value_from 0 digits = value_from_zero digits in
    omega arith

-- Places.

cut : ℕ → ℕ → ℕ
cut zero number = number
cut (suc places) number = cut places (number / 10)

all_long : (places number : ℕ) (behind : List ℕ) → length (all_places places number behind) ≡ length (decimal (cut places number)) + suc places + length behind
unfolding cut
all_long zero number behind = ap length (places_zero number behind) ∙ length-append (decimal number) (46 ∷ behind) ∙ omega arith
all_long (suc places) number behind = ap length (places_suc places number behind) ∙ all_long places (number / 10) (last_digit number ∷ behind) ∙ omega arith

tenth_value : (whole places value number : ℕ) → whole * 10 ^ suc places + value ≡ number → number / 10 ≡ whole * 10 ^ places + value / 10
tenth_value whole places value number h = let e : whole * (10 ^ places * 10) + value ≡ number = rw (pow-suc 10 places) at h in omega arith

tenth_small : (places value : ℕ) → value < 10 ^ suc places → value / 10 < 10 ^ places
tenth_small places value h = let e : value < 10 ^ places * 10 = rw (pow-suc 10 places) at h in omega arith

cut_is : (places whole value number : ℕ) → value < 10 ^ places → whole * 10 ^ places + value ≡ number → cut places number ≡ whole
unfolding cut
cut_is zero whole value number small h = omega arith
cut_is (suc places) whole value number small h =
    cut_is places whole (value / 10) (number / 10) (tenth_small places value small) (sym (tenth_value whole places value number h))

pub pointed_some : (places : ℕ) → pointed_long (suc places) ≡ suc (suc places)
pointed_some places = ap (λ (t : Bool). cond t 0 (suc (suc places))) (ne_eqb (suc places) 0 (λ e. omega arith))

pub pointed_few : (places : ℕ) → pointed_long places ≤ suc places
pointed_few places = by_test (places == 0) where
  by_test : (test : Bool) → cond test 0 (suc places) ≤ suc places
  by_test true = omega arith
  by_test false = omega arith

pub last_or : (long places : ℕ) → long ≤ suc places → (long ≤ places) ⊎ (long ≡ suc places)
last_or long places h = by_test (nat_le long places) refl where
  by_test : (test : Bool) → nat_le long places ≡ test → (long ≤ places) ⊎ (long ≡ suc places)
  by_test true e = inl (leb-true long places e)
  by_test false e = let more : places < long = leb-false long places e in inr (omega arith)

shorter_value : (whole places value long number : ℕ) → long ≤ places → whole * 10 ^ suc places + value * 10 ^ (suc places - long) ≡ number
    → (number % 10 ≡ 0) × (whole * 10 ^ places + value * 10 ^ (places - long) ≡ number / 10)
shorter_value whole places value long number short h =
    let e : suc places - long ≡ suc (places - long) = omega arith in
    let f : whole * 10 ^ suc places + value * 10 ^ suc (places - long) ≡ number = subst (λ (n : ℕ). whole * 10 ^ suc places + value * 10 ^ n ≡ number) e h in
    let g : whole * (10 ^ places * 10) + value * (10 ^ (places - long) * 10) ≡ number = rw (pow-suc 10 places, pow-suc 10 (places - long)) at f in
    (omega arith, omega arith)

full_value : (whole places value long number : ℕ) → long ≡ places → whole * 10 ^ places + value * 10 ^ (places - long) ≡ number → whole * 10 ^ places + value ≡ number
full_value whole places value long number full h =
    let e : places - long ≡ 0 = omega arith in
    let f : whole * 10 ^ places + value * 10 ^ 0 ≡ number = subst (λ (n : ℕ). whole * 10 ^ places + value * 10 ^ n ≡ number) e h in omega arith

full_small : (long places value : ℕ) → long ≡ places → value < 10 ^ long → value < 10 ^ places
full_small long places value full small = subst (λ (n : ℕ). value < 10 ^ n) full small

with_none : (places value : ℕ) → value ≡ value * 10 ^ (places - places)
with_none places value = let e : places - places ≡ 0 = omega arith in subst (λ (n : ℕ). value ≡ value * 10 ^ n) (sym e) (omega arith)

-- no text with these parts is shorter
pub places_short : (places long whole value number : ℕ) → long ≤ places → value < 10 ^ long → whole * 10 ^ places + value * 10 ^ (places - long) ≡ number
    → length (places_text places number) ≤ length (decimal whole) + pointed_long long
places_short zero zero whole value number short small h =
    let same : number ≡ whole = omega arith in
    let e = ap length (zero_text number) ∙ ap (λ n. length (decimal n)) same in omega arith
places_short zero (suc long) whole value number short small h = absurd (omega arith)
places_short (suc places) long whole value number short small h =
    subst (λ (t : List ℕ). length t ≤ length (decimal whole) + pointed_long long) (sym (suc_text places number))
    (elim (number % 10 == 0) as (λ round. (number % 10 == 0) ≡ round → length (cond round (places_text places (number / 10)) (all_places (suc places) number [])) ≤ length (decimal whole) + pointed_long long) [
      | true ↦ λ e. elim (last_or long places short) [
        | inl fits ↦ places_short places long whole value (number / 10) fits small (shorter_value whole places value long number fits h).1
        | inr full ↦
            let f = full_value whole (suc places) value long number full h in
            let tenth : number / 10 ≡ whole * 10 ^ places + value / 10 = tenth_value whole places value number f in
            let g : length (places_text places (number / 10)) ≤ length (decimal whole) + pointed_long places =
            places_short places places whole (value / 10) (number / 10) (omega arith) (tenth_small places value (full_small long (suc places) value full small))
            (ap (λ (n : ℕ). whole * 10 ^ places + n) (sym (with_none places (value / 10))) ∙ sym tenth) in
            let more : pointed_long long ≡ suc (suc places) = ap pointed_long full ∙ pointed_some places in
            omega (arith, pointed_few places)
      ]
      | false ↦ λ e. elim (last_or long places short) [
        | inl fits ↦ absurd (eqb-false (number % 10) 0 e (shorter_value whole places value long number fits h).0)
        | inr full ↦
            let whole_is : cut (suc places) number ≡ whole = cut_is (suc places) whole value number (full_small long (suc places) value full small) (full_value whole (suc places) value long number full h) in
            let l : length (all_places (suc places) number []) ≡ length (decimal whole) + suc (suc places) + 0 =
            all_long (suc places) number [] ∙ ap (λ n. length (decimal n) + suc (suc places) + 0) whole_is in
            let more : pointed_long long ≡ suc (suc places) = ap pointed_long full ∙ pointed_some places in
            omega arith
      ]
    ] refl)

-- Percentages and numbers.

pub percent_shorter : (text : List ℕ) (hundredths : ℕ) → percent_of text ≡ Some hundredths → length (percent_text hundredths) ≤ length text
percent_shorter text hundredths h =
    let found = form_found 1000000 7 2 hundredths (codes "%") text (sym (percent_of_is text) ∙ h) in
    let parts = places_short 2 (length found.fraction) (digits_value found.digits) (digits_value found.fraction) hundredths found.short (fraction_small found.fraction found.all_behind) found.value_is in
    let few : length found.digits ≤ 9 = let f = found.few in omega arith in
    let digits = digits_short found.digits found.all found.some few in
    let long = found.long in
    let printed = ap length (percent_text_is hundredths) ∙ length-append (places_text 2 hundredths) (codes "%") in
    omega arith

pub ten_thousandths_shorter : (text : List ℕ) (number : ℕ) → ten_thousandths_of text ≡ Some number → length (places_text 4 number) ≤ length text
ten_thousandths_shorter text number h = by_test (has_form 9 4 [] text) refl (sym (ten_thousandths_of_is text) ∙ h) where
  shorter : FormRead 9 4 number [] text → length (places_text 4 number) ≤ length text
  shorter found =
      let parts = places_short 4 (length found.fraction) (digits_value found.digits) (digits_value found.fraction) number found.short (fraction_small found.fraction found.all_behind) found.value_is in
      let digits = digits_short found.digits found.all found.some found.few in
      let long = found.long in
      omega arith

  by_test : (test : Bool) → has_form 9 4 [] text ≡ test → cond test (Some (scaled 4 text)) None ≡ Some number → length (places_text 4 number) ≤ length text
  by_test true e f = let same : scaled 4 text ≡ number = cc in shorter (subst (λ (n : ℕ). FormRead 9 4 n [] text) same (form_read 9 4 [] text e))
  by_test false e f = absurd cc

-- Lengths.

pub whole_long : (units whole : ℕ) → units / 64 ≡ whole → length (decimal (units / 64) ++ codes "px") ≡ length (decimal whole) + 2
whole_long units whole e = length-append (decimal (units / 64)) (codes "px") ∙ ap (λ n. length (decimal n) + 2) e

pub tenths_long : (units whole : ℕ) → units / 64 ≡ whole → tenths_of units * 64 / 10 ≡ units → length (tenths_text (tenths_of units)) ≡ length (decimal whole) + 4
tenths_long units whole e cut =
    let tenths : ℕ = tenths_of units in
    let same : tenths_of units / 10 ≡ whole = omega arith in
    ap length (tenths_text_is (tenths_of units)) ∙ length-append (decimal (tenths_of units / 10)) (46 ∷ last_digit (tenths_of units) ∷ codes "px") ∙ ap (λ n. length (decimal n) + 4) same

pub hundredths_long : (units whole : ℕ) → units / 64 ≡ whole → length (hundredths_text (hundredths_of units)) ≡ length (decimal whole) + 5
hundredths_long units whole e =
    let same : hundredths_of units / 100 ≡ whole = omega arith in
    ap length (hundredths_text_is (hundredths_of units))
    ∙ length-append (decimal (hundredths_of units / 100)) (46 ∷ last_digit (hundredths_of units / 10) ∷ last_digit (hundredths_of units) ∷ codes "px") ∙ ap (λ n. length (decimal n) + 5) same

-- how much room the decimals need
length_bound : (units whole room : ℕ) → units / 64 ≡ whole → ((units % 64 ≡ 0 → ⊥) → 2 ≤ room) → ((units % 64 ≡ 0 → ⊥) → (tenths_of units * 64 / 10 ≡ units → ⊥) → 3 ≤ room)
    → length (length_text units) ≤ length (decimal whole) + room + 2
length_bound units whole room e one two =
    subst (λ (t : List ℕ). length t ≤ length (decimal whole) + room + 2) (sym (length_text_is units))
    (elim (units % 64 == 0) as (λ none. (units % 64 == 0) ≡ none
    → length (cond none (decimal (units / 64) ++ codes "px") (cond (tenths_of units * 64 / 10 == units) (tenths_text (tenths_of units)) (hundredths_text (hundredths_of units)))) ≤ length (decimal whole) + room + 2) [
      | true ↦ λ f. omega (arith, whole_long units whole e)
      | false ↦ λ f. elim (tenths_of units * 64 / 10 == units) as (λ cut. (tenths_of units * 64 / 10 == units) ≡ cut
          → length (cond cut (tenths_text (tenths_of units)) (hundredths_text (hundredths_of units))) ≤ length (decimal whole) + room + 2) [
            | true ↦ λ g.
                let l = tenths_long units whole e (eqb-true (tenths_of units * 64 / 10) units g) in
                let r : 2 ≤ room = one (eqb-false (units % 64) 0 f) in omega arith
            | false ↦ λ g.
                let l = hundredths_long units whole e in
                let r : 3 ≤ room = two (eqb-false (units % 64) 0 f) (eqb-false (tenths_of units * 64 / 10) units g) in omega arith
          ] refl
    ] refl)

length_cases : (long whole value number units : ℕ) → long ≤ 2 → value < 10 ^ long → whole * 100 + value * 10 ^ (2 - long) ≡ number → number * 64 / 100 ≡ units
    → length (length_text units) ≤ length (decimal whole) + pointed_long long + 2
length_cases zero whole value number units short small h e =
    length_bound units whole 0 (omega arith) (λ n. absurd (n (omega arith))) (λ n m. absurd (n (omega arith)))
length_cases (suc zero) whole value number units short small h e =
    length_bound units whole 2 (omega arith) (λ n. omega arith) (λ n m. absurd (m (omega arith)))
length_cases (suc (suc zero)) whole value number units short small h e =
    length_bound units whole 3 (omega arith) (λ n. omega arith) (λ n m. omega arith)
length_cases (suc (suc (suc long))) whole value number units short small h e = absurd (omega arith)

pub some_units : (found : Option ℕ) (units : ℕ) → option_map (λ hundredths. hundredths * 64 / 100) found ≡ Some units → (number : ℕ) × (found ≡ Some number) × (number * 64 / 100 ≡ units)
some_units None units h = absurd cc
some_units (Some number) units h = (number, refl, cc)

pub length_shorter : (text : List ℕ) (units : ℕ) → length_of text ≡ Some units → length (length_text units) ≤ length text
length_shorter text units h =
    let read = some_units (form_of 100000000 7 2 (codes "px") text) units (sym (length_of_is text) ∙ h) in
    let found = form_found 100000000 7 2 read.0 (codes "px") text read.1 in
    let parts = length_cases (length found.fraction) (digits_value found.digits) (digits_value found.fraction) read.0 units found.short (fraction_small found.fraction found.all_behind) found.value_is read.2 in
    let few : length found.digits ≤ 9 = let f = found.few in omega arith in
    let digits = digits_short found.digits found.all found.some few in
    let long = found.long in
    omega arith

-- A sign.

-- texts of a reader's values that aren't longer than what was read
abbrev pub Shorter : (List ℕ → Option ℕ) → (ℕ → List ℕ) → Type 0
Shorter of text_of = (text : List ℕ) (number : ℕ) → of text ≡ Some number → length (text_of number) ≤ length text

pub plus_is : (number : ℕ) → with_sign false number ≡ pos number
unfolding with_sign
plus_is number = refl

pub minus_zero : with_sign true 0 ≡ pos 0
unfolding with_sign
minus_zero = refl

pub minus_suc : (number : ℕ) → with_sign true (suc number) ≡ negsuc number
unfolding with_sign
minus_suc number = refl

pub some_same : (a b : ℤ) → ◌≡◌ {A = Option ℤ} (Some a) (Some b) → a ≡ b
some_same a b h = cc

-- a text of a number, without or with its sign
abbrev Fits : (ℕ → List ℕ) → List ℕ → ℤ → Type 0
Fits text_of text number = length (with_minus number (text_of (unsigned_abs number))) ≤ length text

with_found : (of : List ℕ → Option ℕ) (text_of : ℕ → List ℕ) → Shorter of text_of → (text rest : List ℕ) (number : ℤ) (sign : Bool) (found : Option ℕ) → of rest ≡ found
    → option_map (with_sign sign) found ≡ Some number → cond sign 1 0 + length rest ≤ length text → Fits text_of text number
with_found of text_of shorter text rest number sign None f h long = absurd cc
with_found of text_of shorter text rest number false (Some n) f h long =
    let e : pos n ≡ number = sym (plus_is n) ∙ some_same (with_sign false n) number h in
    let s : length (text_of n) ≤ length rest = shorter rest n f in
    subst (Fits text_of text) e (omega arith)
with_found of text_of shorter text rest number true (Some zero) f h long =
    let e : pos 0 ≡ number = sym minus_zero ∙ some_same (with_sign true 0) number h in
    let s : length (text_of 0) ≤ length rest = shorter rest 0 f in
    subst (Fits text_of text) e (omega arith)
with_found of text_of shorter text rest number true (Some (suc n)) f h long =
    let e : negsuc n ≡ number = sym (minus_suc n) ∙ some_same (with_sign true (suc n)) number h in
    let s : length (text_of (suc n)) ≤ length rest = shorter rest (suc n) f in
    subst (Fits text_of text) e (omega arith)

minus_long : (text : List ℕ) → begins_with 45 text ≡ true → 1 + length (drop 1 text) ≤ length text
unfolding begins_with
minus_long [] h = absurd cc
minus_long (b ∷ bs) h = omega arith

signed_shorter_by : (of : List ℕ → Option ℕ) (text_of : ℕ → List ℕ) → Shorter of text_of → (text : List ℕ) (number : ℤ) → signed_by of text ≡ Some number → Fits text_of text number
signed_shorter_by of text_of shorter text number h =
    let read : option_map (with_sign (begins_with 45 text)) (of (cond (begins_with 45 text) (drop 1 text) text)) ≡ Some number =
    ap (λ (t : List ℕ). option_map (with_sign (begins_with 45 text)) (of t)) (sym (unsigned_is text)) ∙ sym (signed_by_is of text) ∙ h in
    elim (begins_with 45 text) as (λ sign. begins_with 45 text ≡ sign → option_map (with_sign sign) (of (cond sign (drop 1 text) text)) ≡ Some number → Fits text_of text number) [
      | true ↦ λ e r. with_found of text_of shorter text (drop 1 text) number true (of (drop 1 text)) refl r (minus_long text e)
      | false ↦ λ e r. with_found of text_of shorter text text number false (of text) refl r (omega arith)
    ] refl read

pub signed_shorter : (text : List ℕ) (units : ℤ) → signed_of text ≡ Some units → length (signed_text units) ≤ length text
unfolding signed_of signed_text
signed_shorter text units h = signed_shorter_by length_of length_text length_shorter text units h

pub signed_percent_shorter : (text : List ℕ) (hundredths : ℤ) → signed_percent_of text ≡ Some hundredths → length (signed_percent_text hundredths) ≤ length text
unfolding signed_percent_of signed_percent_text
signed_percent_shorter text hundredths h = signed_shorter_by percent_of percent_text percent_shorter text hundredths h

pub number_shorter : (text : List ℕ) (number : ℤ) → number_of text ≡ Some number → length (number_text number) ≤ length text
unfolding number_of number_text
number_shorter text number h = signed_shorter_by ten_thousandths_of (places_text 4) ten_thousandths_shorter text number h
