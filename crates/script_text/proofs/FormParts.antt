-- A text of digits, a point with digits, and a unit has these parts.
use Rattle.std.proofs.Common.{◌≡◌, ℕ, ◌+◌, ◌-◌, ◌*◌, ◌^◌, ◌<◌, ◌≤◌, Bool, true, false, cond, ◌&&◌, ◌==◌, nat_lt, nat_le, List, [], ◌∷◌, ◌++◌, length, drop, Some, None, refl, ap, ◌∙◌, arith}
use Rattle.std.specs.Prelude.{take_while, bytes_eq}
use Rattle.std.proofs.lemmas.Bool.{le-leb, lt-ltb, and_from, and_parts, ne_eqb}
use Rattle.std.proofs.lemmas.List.Sums.{take_while-cons}
use Rattle.std.proofs.Math.Seq.{drop-append_seam}
use Rattle.std.proofs.lemmas.Slice.Eq.{bytes_eq-Decides}
use Rattle.word_model.specs.Names.{is_digit}
use Rattle.word_model.specs.Numbers.{begins_with, leading_digits, behind_digits, point_digits, behind_point, fraction_digits, unit_of, has_form, scaled, at_most, form_of, digits_value}
use Rattle.word_model.proofs.Digits.{point_digits_are, behind_point_is}
use Rattle.word_model.proofs.Forms.{has_form_is, scaled_is, form_of_is}
use Rattle.word_model.proofs.Values.{not_above}
use Rattle.media_queries.proofs.DigitTexts.{NoDigit}
use Rattle.script_text.proofs.Decimals.{AreDigits}

pub bytes_same : (text : List ℕ) → bytes_eq text text ≡ true
bytes_same text = (bytes_eq-Decides text text).1 refl

none_taken : (rest : List ℕ) → NoDigit rest → take_while is_digit rest ≡ []
none_taken [] none = refl
none_taken (b ∷ bs) none = take_while-cons is_digit b bs ∙ ap (λ t. cond t (b ∷ take_while is_digit bs) []) none

taken : (digits rest : List ℕ) → AreDigits digits → NoDigit rest → take_while is_digit (digits ++ rest) ≡ digits
taken [] rest all none = none_taken rest none
taken (d ∷ ds) rest all none =
    take_while-cons is_digit d (ds ++ rest) ∙ ap (λ t. cond t (d ∷ take_while is_digit (ds ++ rest)) []) (and_parts _ _ all).0
    ∙ ap (λ (t : List ℕ). d ∷ t) (taken ds rest (and_parts _ _ all).1 none)

pub leading : (digits rest : List ℕ) → AreDigits digits → NoDigit rest → leading_digits (digits ++ rest) ≡ digits
unfolding leading_digits
leading digits rest all none = taken digits rest all none

pub behind : (digits rest : List ℕ) → AreDigits digits → NoDigit rest → behind_digits (digits ++ rest) ≡ rest
unfolding behind_digits
behind digits rest all none = ap (λ (l : List ℕ). drop (length l) (digits ++ rest)) (leading digits rest all none) ∙ drop-append_seam digits rest

-- a unit begins with no digit and no point
pub record IsUnit (unit : List ℕ) : Type 0 where
  pub no_digit : NoDigit unit
  pub no_point : begins_with 46 unit ≡ false

-- a point with digits, if there are any, and a unit
abbrev pub pointed : List ℕ → List ℕ → List ℕ
pointed [] unit = unit
pointed (d ∷ ds) unit = 46 ∷ d ∷ (ds ++ unit)

pointed_no_digit : (fraction unit : List ℕ) → IsUnit unit → NoDigit (pointed fraction unit)
pointed_no_digit [] unit is = is.no_digit
pointed_no_digit (d ∷ ds) unit is = refl

digits_behind : (fraction unit : List ℕ) → AreDigits fraction → IsUnit unit → point_digits (pointed fraction unit) ≡ fraction
unfolding begins_with
digits_behind [] unit all is = point_digits_are unit ∙ ap (λ t. cond t (leading_digits (drop 1 unit)) []) is.no_point
digits_behind (d ∷ ds) unit all is = point_digits_are (46 ∷ d ∷ (ds ++ unit)) ∙ leading (d ∷ ds) unit all is.no_digit

unit_behind : (fraction unit : List ℕ) → AreDigits fraction → IsUnit unit → behind_point (pointed fraction unit) ≡ unit
unit_behind [] unit all is =
    behind_point_is unit ∙ ap (λ (digits : List ℕ). cond (length digits == 0) unit (behind_digits (drop 1 unit))) (digits_behind [] unit all is)
unit_behind (d ∷ ds) unit all is =
    behind_point_is (46 ∷ d ∷ (ds ++ unit))
    ∙ ap (λ (digits : List ℕ). cond (length digits == 0) (46 ∷ d ∷ (ds ++ unit)) (behind_digits (d ∷ (ds ++ unit)))) (digits_behind (d ∷ ds) unit all is)
    ∙ ap (λ (t : Bool). cond t (46 ∷ d ∷ (ds ++ unit)) (behind_digits (d ∷ (ds ++ unit)))) (ne_eqb (length (d ∷ ds)) 0 (λ e. omega arith))
    ∙ behind (d ∷ ds) unit all is.no_digit

-- a text with these parts
pub record HasParts (digits fraction unit text : List ℕ) : Type 0 where
  pub digits_are : leading_digits text ≡ digits
  pub fraction_is : fraction_digits text ≡ fraction
  pub unit_is : unit_of text ≡ unit

pub has_parts : (digits fraction unit : List ℕ) → AreDigits digits → AreDigits fraction → IsUnit unit → HasParts digits fraction unit (digits ++ pointed fraction unit)
has_parts digits fraction unit whole all is =
    let rest : behind_digits (digits ++ pointed fraction unit) ≡ pointed fraction unit = behind digits (pointed fraction unit) whole (pointed_no_digit fraction unit is) in
    record {
      digits_are = leading digits (pointed fraction unit) whole (pointed_no_digit fraction unit is);
      fraction_is = ap point_digits rest ∙ digits_behind fraction unit all is;
      unit_is = ap behind_point rest ∙ unit_behind fraction unit all is;
    }

pub form_is : (most places : ℕ) (digits fraction unit text : List ℕ) → HasParts digits fraction unit text → 0 < length digits → length digits ≤ most → length fraction ≤ places
    → has_form most places unit text ≡ true
form_is most places digits fraction unit text parts some few short =
    has_form_is most places unit text
    ∙ ap (λ (d : List ℕ). nat_lt 0 (length d) && nat_le (length d) most && nat_le (length (fraction_digits text)) places && bytes_eq (unit_of text) unit) parts.digits_are
    ∙ ap (λ (f : List ℕ). nat_lt 0 (length digits) && nat_le (length digits) most && nat_le (length f) places && bytes_eq (unit_of text) unit) parts.fraction_is
    ∙ ap (λ (u : List ℕ). nat_lt 0 (length digits) && nat_le (length digits) most && nat_le (length fraction) places && bytes_eq u unit) parts.unit_is
    ∙ and_from _ _ (and_from _ _ (and_from _ _ (lt-ltb 0 (length digits) some) (le-leb (length digits) most few)) (le-leb (length fraction) places short)) (bytes_same unit)

pub scaled_value : (places : ℕ) (digits fraction unit text : List ℕ) → HasParts digits fraction unit text
    → scaled places text ≡ digits_value digits * 10 ^ places + digits_value fraction * 10 ^ (places - length fraction)
scaled_value places digits fraction unit text parts =
    scaled_is places text
    ∙ ap (λ (d : List ℕ). digits_value d * 10 ^ places + digits_value (fraction_digits text) * 10 ^ (places - length (fraction_digits text))) parts.digits_are
    ∙ ap (λ (f : List ℕ). digits_value digits * 10 ^ places + digits_value f * 10 ^ (places - length f)) parts.fraction_is

pub form_read : (bound most places number : ℕ) (digits fraction unit text : List ℕ) → HasParts digits fraction unit text → 0 < length digits → length digits ≤ most → length fraction ≤ places
    → digits_value digits * 10 ^ places + digits_value fraction * 10 ^ (places - length fraction) ≡ number → number ≤ bound → form_of bound most places unit text ≡ Some number
form_read bound most places number digits fraction unit text parts some few short same within =
    form_of_is bound most places unit text
    ∙ ap (λ (t : Bool). cond t (at_most bound (scaled places text)) None) (form_is most places digits fraction unit text parts some few short)
    ∙ ap (at_most bound) (scaled_value places digits fraction unit text parts ∙ same)
    ∙ not_above bound number within
