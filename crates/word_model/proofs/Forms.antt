-- Definitions by their equations, with what stands below them closed.
use Rattle.std.proofs.Common.{◌≡◌, ℕ, ◌+◌, ◌-◌, ◌*◌, ◌/◌, ◌^◌, cond, not, ◌&&◌, nat_lt, nat_le, List, [], length, Some, None, refl}
use Rattle.std.specs.Prelude.{bytes_eq, option_map, codes}
use Rattle.std.specs.List.{list_all}
use Rattle.word_model.specs.Names.{is_digit}
use Rattle.word_model.specs.Numbers.{begins_with, unsigned, digits_value, leading_digits, fraction_digits, unit_of, is_decimal_with, has_form, scaled, at_most, form_of, with_sign, is_whole, whole_of, length_of, signed_of, percent_of, signed_percent_of, ten_thousandths_of, number_of}

pub scaled_is : (places : ℕ) (text : List ℕ)
    → scaled places text ≡ digits_value (leading_digits text) * 10 ^ places + digits_value (fraction_digits text) * 10 ^ (places - length (fraction_digits text))
unfolding scaled
scaled_is places text = refl

pub has_form_is : (most places : ℕ) (unit text : List ℕ)
    → has_form most places unit text ≡ (nat_lt 0 (length (leading_digits text)) && nat_le (length (leading_digits text)) most
    && nat_le (length (fraction_digits text)) places && bytes_eq (unit_of text) unit)
unfolding has_form
has_form_is most places unit text = refl

pub is_decimal_with_is : (unit text : List ℕ)
    → is_decimal_with unit text ≡ (nat_lt 0 (length (leading_digits (unsigned text))) && bytes_eq (unit_of (unsigned text)) unit)
unfolding is_decimal_with
is_decimal_with_is unit text = refl

pub form_of_is : (bound most places : ℕ) (unit text : List ℕ)
    → form_of bound most places unit text ≡ cond (has_form most places unit text) (at_most bound (scaled places text)) None
unfolding form_of
form_of_is bound most places unit text = refl

pub is_whole_is : (text : List ℕ)
    → is_whole text ≡ (nat_lt 0 (length text) && list_all is_digit text && not (begins_with 48 text && nat_lt 1 (length text)))
unfolding is_whole
is_whole_is text = refl

pub whole_of_is : (text : List ℕ) → whole_of text ≡ cond (is_whole text) (at_most 1000000000000 (digits_value text)) None
unfolding whole_of
whole_of_is text = refl

pub length_of_is : (text : List ℕ) → length_of text ≡ option_map (λ hundredths. hundredths * 64 / 100) (form_of 100000000 7 2 (codes "px") text)
unfolding length_of
length_of_is text = refl

pub percent_of_is : (text : List ℕ) → percent_of text ≡ form_of 1000000 7 2 (codes "%") text
unfolding percent_of
percent_of_is text = refl

pub ten_thousandths_of_is : (text : List ℕ) → ten_thousandths_of text ≡ cond (has_form 9 4 [] text) (Some (scaled 4 text)) None
unfolding ten_thousandths_of
ten_thousandths_of_is text = refl

pub signed_of_is : (text : List ℕ) → signed_of text ≡ option_map (with_sign (begins_with 45 text)) (length_of (unsigned text))
unfolding signed_of
signed_of_is text = refl

pub signed_percent_of_is : (text : List ℕ) → signed_percent_of text ≡ option_map (with_sign (begins_with 45 text)) (percent_of (unsigned text))
unfolding signed_percent_of
signed_percent_of_is text = refl

pub number_of_is : (text : List ℕ) → number_of text ≡ option_map (with_sign (begins_with 45 text)) (ten_thousandths_of (unsigned text))
unfolding number_of
number_of_is text = refl
