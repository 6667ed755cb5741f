-- The text of a number with places behind a point is its whole part with its fraction, whose last digit isn't zero.
use Rattle.std.proofs.Common.{◌≡◌, ℕ, zero, suc, ◌+◌, ◌-◌, ◌*◌, ◌/◌, ◌%◌, ◌^◌, ◌<◌, ◌≤◌, true, false, cond, ◌==◌, List, [], ◌∷◌, ◌++◌, length, refl, ap, sym, ◌∙◌, arith, subst, append_assoc, append-nil, length-append}
use Rattle.std.proofs.lemmas.Bool.{eqb-true, and_from}
use Rattle.std.proofs.lemmas.List.Folds.{list_all-append}
use Rattle.std.proofs.Math.Nat.{pow-suc}
use Rattle.word_model.specs.Names.{is_digit}
use Rattle.word_model.specs.Numbers.{decimal, digits_value}
use Rattle.word_model.proofs.Values.{value_from, value_from_zero}
use Rattle.media_queries.specs.LengthText.{last_digit}
use Rattle.word_model.proofs.RoundTrip.{digit_is}
use Rattle.script_text.specs.NumberText.{all_places, places_text}
use Rattle.script_text.proofs.Decimals.{AreDigits}
use Rattle.script_text.proofs.FormParts.{pointed}

value_on : (digits : List ℕ) (value digit : ℕ) → value_from value (digits ++ (digit ∷ [])) ≡ value_from value digits * 10 + (digit - 48)
value_on [] value digit = refl
value_on (d ∷ ds) value digit = value_on ds (value * 10 + (d - 48)) digit

value_push : (digits : List ℕ) (digit : ℕ) → digits_value (digits ++ (digit ∷ [])) ≡ digits_value digits * 10 + (digit - 48)
value_push digits digit =
    value_from_zero (digits ++ (digit ∷ [])) ∙ value_on digits 0 digit ∙ ap (λ v. v * 10 + (digit - 48)) (sym (value_from_zero digits))

pub no_value : digits_value [] ≡ 0
no_value = value_from_zero []

-- all places before a text
record AllPlaces (places number : ℕ) (behind text : List ℕ) : Type 0 where
  whole : ℕ
  fraction : List ℕ
  all : AreDigits fraction
  long : length fraction ≡ places
  text_is : text ≡ decimal whole ++ (46 ∷ (fraction ++ behind))
  value_is : whole * 10 ^ places + digits_value fraction ≡ number

pub places_zero : (number : ℕ) (behind : List ℕ) → all_places zero number behind ≡ decimal number ++ (46 ∷ behind)
unfolding all_places
places_zero number behind = refl

pub places_suc : (places number : ℕ) (behind : List ℕ) → all_places (suc places) number behind ≡ all_places places (number / 10) (last_digit number ∷ behind)
unfolding all_places
places_suc places number behind = refl

value_next : (whole places value number : ℕ) → whole * 10 ^ places + value ≡ number / 10 → whole * 10 ^ suc places + (value * 10 + number % 10) ≡ number
value_next whole places value number h = rw (pow-suc 10 places) (omega arith)

all_placed : (places number : ℕ) (behind : List ℕ) → AllPlaces places number behind (all_places places number behind)
all_placed zero number behind = record {
  whole = number;
  fraction = [];
  all = refl;
  long = refl;
  text_is = places_zero number behind;
  value_is = omega (arith, no_value);
}
all_placed (suc places) number behind =
    let before = all_placed places (number / 10) (last_digit number ∷ behind) in
    let digit : ℕ = last_digit number in
    let fraction : List ℕ = before.fraction ++ (digit ∷ []) in
    let value : digits_value fraction ≡ digits_value before.fraction * 10 + number % 10 =
    value_push before.fraction digit ∙ ap (λ n. digits_value before.fraction * 10 + n) (omega arith) in
    record {
      whole = before.whole;
      fraction = fraction;
      all = list_all-append is_digit before.fraction (digit ∷ []) ∙ and_from _ _ before.all (and_from _ _ (digit_is number) refl);
      long = length-append before.fraction (digit ∷ []) ∙ omega (arith, before.long);
      text_is = places_suc places number behind ∙ before.text_is ∙ ap (λ (t : List ℕ). decimal before.whole ++ (46 ∷ t)) (sym (append_assoc before.fraction (digit ∷ []) behind));
      value_is = ap (λ v. before.whole * 10 ^ suc places + v) value ∙ value_next before.whole places (digits_value before.fraction) number before.value_is;
    }

-- a number's text without a unit
pub record Written (places number : ℕ) (text : List ℕ) : Type 0 where
  pub whole : ℕ
  pub fraction : List ℕ
  pub all : AreDigits fraction
  pub short : length fraction ≤ places
  pub text_is : text ≡ decimal whole ++ pointed fraction []
  pub value_is : whole * 10 ^ places + digits_value fraction * 10 ^ (places - length fraction) ≡ number

pub pointed_some : (fraction unit : List ℕ) → 0 < length fraction → 46 ∷ (fraction ++ unit) ≡ pointed fraction unit
pointed_some [] unit h = absurd (omega arith)
pointed_some (d ∷ ds) unit h = refl

pub pointed_unit : (fraction unit : List ℕ) → pointed fraction [] ++ unit ≡ pointed fraction unit
pointed_unit [] unit = refl
pointed_unit (d ∷ ds) unit = ap (λ (t : List ℕ). 46 ∷ d ∷ (t ++ unit)) (append-nil ds)

pub zero_text : (number : ℕ) → places_text zero number ≡ decimal number
unfolding places_text
zero_text number = refl

pub suc_text : (places number : ℕ) → places_text (suc places) number ≡ cond (number % 10 == 0) (places_text places (number / 10)) (all_places (suc places) number [])
unfolding places_text
suc_text places number = refl

value_shorter : (whole places value long number : ℕ) → long ≤ places → number % 10 ≡ 0 → whole * 10 ^ places + value * 10 ^ (places - long) ≡ number / 10
    → whole * 10 ^ suc places + value * 10 ^ (suc places - long) ≡ number
value_shorter whole places value long number short round h =
    let e : suc places - long ≡ suc (places - long) = omega arith in
    rw e (rw (pow-suc 10 places, pow-suc 10 (places - long)) (omega arith))

value_full : (whole places value long number : ℕ) → long ≡ places → whole * 10 ^ places + value ≡ number → whole * 10 ^ places + value * 10 ^ (places - long) ≡ number
value_full whole places value long number full h =
    let e : places - long ≡ 0 = omega arith in rw e (omega arith)

pub written : (places number : ℕ) → Written places number (places_text places number)
written zero number = record {
  whole = number;
  fraction = [];
  all = refl;
  short = omega arith;
  text_is = zero_text number ∙ sym (append-nil (decimal number));
  value_is = omega (arith, no_value);
}
written (suc places) number =
    subst (Written (suc places) number) (sym (suc_text places number))
    (elim (number % 10 == 0) as (λ round. (number % 10 == 0) ≡ round → Written (suc places) number (cond round (places_text places (number / 10)) (all_places (suc places) number []))) [
      | true ↦ λ e.
          let before = written places (number / 10) in
          record {
            whole = before.whole;
            fraction = before.fraction;
            all = before.all;
            short = omega (arith, before.short);
            text_is = before.text_is;
            value_is = value_shorter before.whole places (digits_value before.fraction) (length before.fraction) number before.short (eqb-true (number % 10) 0 e) before.value_is;
          }
      | false ↦ λ e.
          let placed = all_placed (suc places) number [] in
          record {
            whole = placed.whole;
            fraction = placed.fraction;
            all = placed.all;
            short = omega (arith, placed.long);
            text_is = placed.text_is ∙ ap (λ (t : List ℕ). decimal placed.whole ++ t) (pointed_some placed.fraction [] (omega (arith, placed.long)));
            value_is = value_full placed.whole (suc places) (digits_value placed.fraction) (length placed.fraction) number placed.long placed.value_is;
          }
    ] refl)
