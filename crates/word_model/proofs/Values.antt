-- The number that digits write.
use Rattle.std.proofs.Common.{◌≡◌, ℕ, zero, suc, ◌+◌, ◌-◌, ◌*◌, ◌^◌, ◌<◌, ◌≤◌, true, false, cond, nat_le, List, [], ◌∷◌, length, drop, get_or, Some, None, refl, sym, ◌∙◌, arith, subst, add-one, drop-cons}
use Rattle.std.proofs.lemmas.List.{drop_all}
use Rattle.std.specs.Prelude.{fold, take_while}
use Rattle.std.proofs.lemmas.List.Sums.{take_while-cons}
use Rattle.std.specs.List.{list_all}
use Rattle.std.proofs.lemmas.Bool.{leb-true, and_parts}
use Rattle.std.proofs.Math.Nat.{pow-zero, pow-suc}
use Rattle.std.proofs.lemmas.Grind.{common_steps}
use Rattle.word_model.specs.Names.{is_digit}
use Rattle.word_model.specs.Numbers.{at_most, digits_value, leading_digits}

-- the number that digits write behind a number already read
abbrev pub value_from : ℕ → List ℕ → ℕ
value_from value digits = fold (λ v digit. v * 10 + (digit - 48)) value digits

pub value_from_zero : (digits : List ℕ) → digits_value digits ≡ value_from 0 digits
unfolding digits_value
value_from_zero digits = refl

-- a number already read only grows
pub value_grows : (digits : List ℕ) (value : ℕ) → value ≤ value_from value digits
value_grows [] value = omega arith
value_grows (d ∷ ds) value = let h : value * 10 + (d - 48) ≤ value_from (value * 10 + (d - 48)) ds = value_grows ds (value * 10 + (d - 48)) in omega arith

-- and by a place for each digit at least
pub value_large : (digits : List ℕ) (value : ℕ) → value * 10 ^ length digits ≤ value_from value digits
value_large [] value = rw pow-zero (omega arith)
value_large (d ∷ ds) value =
    let later : (value * 10 + (d - 48)) * 10 ^ length ds ≤ value_from (value * 10 + (d - 48)) ds = value_large ds (value * 10 + (d - 48)) in
    rw (pow-suc 10 (length ds)) (omega arith)

pub digit_range : (d : ℕ) → is_digit d ≡ true → (48 ≤ d) × (d ≤ 57)
digit_range d h = let both : (nat_le 48 d ≡ true) × (nat_le d 57 ≡ true) = and_parts (nat_le 48 d) (nat_le d 57) h in (leb-true 48 d both.0, leb-true d 57 both.1)

pub value_step : (digits : List ℕ) (i value : ℕ) → i < length digits
    → value_from value (drop i digits) ≡ value_from (value * 10 + (get_or digits i 0 - 48)) (drop (i + 1) digits)
value_step digits i value h = rw (add-one, drop-cons digits i 0) refl

pub above : (bound number : ℕ) → bound < number → at_most bound number ≡ None
unfolding at_most
above bound number h = grind (arith, common_steps)

pub not_above : (bound number : ℕ) → number ≤ bound → at_most bound number ≡ Some number
unfolding at_most
not_above bound number h = grind (arith, common_steps)

-- all digits are read
pub all_read : (digits : List ℕ) (i value bound : ℕ) → length digits ≤ i → value_from value (drop i digits) ≡ digits_value digits
    → value ≤ bound → Some value ≡ at_most bound (digits_value digits)
all_read digits i value bound past read within =
    let e : value ≡ digits_value digits = rw (drop_all i digits past) at read in
    sym (subst (λ (n : ℕ). at_most bound n ≡ Some value) e (not_above bound value within))

-- a digit leads above the bound
pub passed : (digits : List ℕ) (i value bound : ℕ) → i < length digits → value_from value (drop i digits) ≡ digits_value digits
    → bound < value * 10 + (get_or digits i 0 - 48) → None ≡ at_most bound (digits_value digits)
passed digits i value bound h read over =
    let next : ℕ = value * 10 + (get_or digits i 0 - 48) in
    let grown : next ≤ value_from next (drop (i + 1) digits) = value_grows (drop (i + 1) digits) next in
    let same : value_from next (drop (i + 1) digits) ≡ digits_value digits = sym (value_step digits i value h) ∙ read in
    sym (above bound (digits_value digits) (subst (λ (n : ℕ). bound < n) same (omega arith)))

grown : (bound places : ℕ) → bound ≤ bound * 10 ^ places
grown bound zero = rw pow-zero (omega arith)
grown bound (suc places) = let h : bound ≤ bound * 10 ^ places = grown bound places in rw (pow-suc 10 places) (omega arith)

tens : (bound places : ℕ) → bound * 10 * 10 ^ places ≡ bound * 10 ^ suc places
tens bound places = rw (pow-suc 10 places) (omega arith)

digit_adds : (d value bound : ℕ) → is_digit d ≡ true → value < bound → value * 10 + (d - 48) < bound * 10
digit_adds d value bound h below = let top : d ≤ 57 = leb-true d 57 (and_parts (nat_le 48 d) (nat_le d 57) h).1 in omega arith

-- so many digits write less than that power of ten
pub value_small : (digits : List ℕ) (places value bound : ℕ) → list_all is_digit digits ≡ true → length digits ≤ places → value < bound
    → value_from value digits < bound * 10 ^ places
value_small [] places value bound all short h = let g : bound ≤ bound * 10 ^ places = grown bound places in omega arith
value_small (d ∷ ds) zero value bound all short h = absurd (omega arith)
value_small (d ∷ ds) (suc places) value bound all short h =
    let start : value * 10 + (d - 48) < bound * 10 = digit_adds d value bound (and_parts (is_digit d) (list_all is_digit ds) all).0 h in
    let tail : value_from (value * 10 + (d - 48)) ds < bound * 10 * 10 ^ places =
    value_small ds places (value * 10 + (d - 48)) (bound * 10) (and_parts (is_digit d) (list_all is_digit ds) all).1 (omega arith) start in
    subst (λ (n : ℕ). value_from (value * 10 + (d - 48)) ds < n) (tens bound places) tail

pub nine_digits : (digits : List ℕ) → list_all is_digit digits ≡ true → length digits ≤ 9 → digits_value digits ≤ 999999999
nine_digits digits all short =
    let h : value_from 0 digits < 1 * 10 ^ 9 = value_small digits 9 0 1 all short (omega arith) in
    let e : digits_value digits ≡ value_from 0 digits = value_from_zero digits in omega arith

leading_passes : (text : List ℕ) → list_all is_digit (take_while is_digit text) ≡ true
leading_passes [] = refl
leading_passes (b ∷ bs) = rw (take_while-cons is_digit b bs) (elim (is_digit b) as (λ v. (is_digit b ≡ v) → list_all is_digit (cond v (b ∷ take_while is_digit bs) []) ≡ true) [ true ↦ λ h. rw h (leading_passes bs) | false ↦ λ h. refl ] refl)

pub leading_all : (text : List ℕ) → list_all is_digit (leading_digits text) ≡ true
unfolding leading_digits
leading_all text = leading_passes text
