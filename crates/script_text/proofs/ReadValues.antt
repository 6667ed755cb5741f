-- What a word is read as is in the grammar's ranges, and is no longer printed than the word that was read.
use Rattle.std.proofs.Common.{◌≡◌, ℕ, zero, suc, ◌-◌, ◌*◌, ◌/◌, ◌^◌, ◌<◌, ◌≤◌, ℤ, Bool, true, false, cond, ◌==◌, nat_le, List, [], ◌∷◌, length, Some, None, refl, ap, sym, ◌∙◌, arith, subst}
use Rattle.std.specs.Prelude.{Option, option_map, unsigned_abs, bytes_eq, codes}
use Rattle.std.proofs.lemmas.Bool.{and_parts, ltb-true, leb-true}
use Rattle.std.proofs.lemmas.Slice.Eq.{bytes_eq-Decides}
use Rattle.word_model.specs.Names.{is_name}
use Rattle.word_model.specs.Numbers.{begins_with, unsigned, decimal, digits_value, at_most, has_form, scaled, form_of, is_whole, whole_of, with_sign, signed_by, length_of, signed_of, percent_of, signed_percent_of, ten_thousandths_of, number_of}
use Rattle.word_model.proofs.Forms.{is_whole_is, whole_of_is, length_of_is, percent_of_is, ten_thousandths_of_is}
use Rattle.word_model.proofs.Values.{nine_digits}
use Rattle.script_model.specs.Keywords.{Keyword, lookup}
use Rattle.script_model.specs.Syntax.{Named, Target, PlainAim, WindowAim}
use Rattle.script_model.specs.Words.{name_of, node_of, aim_of, or_dash, just}
use Rattle.media_queries.specs.LengthText.{length_text}
use Rattle.script_text.specs.NumberText.{percent_text, signed_text, signed_percent_text, number_text}
use Rattle.script_text.specs.WordText.{operand_text, aim_text, dash_or}
use Rattle.script_text.specs.WellFormed.{IsName, IsOperand, IsAim, IfSome, IsLength, IsPercentage, IsNumber}
use Rattle.script_text.proofs.Decimals.{decimal_short}
use Rattle.script_text.proofs.NumbersAgain.{signed_by_is}
use Rattle.script_text.proofs.Tables.{Each, looked_up}
use Rattle.script_text.proofs.Shortness.{FormRead, form_read, in_bound, fraction_small, plus_is, minus_zero, minus_suc, length_shorter, signed_shorter, percent_shorter, signed_percent_shorter, number_shorter}

-- What holds of each value that a reader of words gives.

pub if_some : {A : Type 0} (Is : A → Type 0) (found : Option A) → ((value : A) → found ≡ Some value → Is value) → IfSome Is found
if_some Is None h = tt
if_some Is (Some value) h = h value refl

pub mapped_some : {A B : Type 0} (Is : A → Type 0) (So : B → Type 0) (f : A → B) (found : Option A) → IfSome Is found → ((value : A) → Is value → So (f value)) → IfSome So (option_map f found)
mapped_some Is So f None h goes = tt
mapped_some Is So f (Some value) h goes = goes value h

pub chosen_some : {A : Type 0} (Is : A → Type 0) (test : Bool) (first second : Option A) → (test ≡ true → IfSome Is first) → (test ≡ false → IfSome Is second) → IfSome Is (cond test first second)
chosen_some Is true first second h g = h refl
chosen_some Is false first second h g = g refl

-- a value in its ranges that is no longer printed than this text
abbrev pub Fits : {A : Type 0} → (A → Type 0) → (A → List ℕ) → List ℕ → A → Type 0
Fits Is text_of text value = Is value × (length (text_of value) ≤ length text)

abbrev pub ReadsFit : {A : Type 0} → (List ℕ → Option A) → (A → Type 0) → (A → List ℕ) → Type 0
ReadsFit of Is text_of = (text : List ℕ) → IfSome (Fits Is text_of text) (of text)

pub same_long : (text other : List ℕ) → bytes_eq text other ≡ true → length other ≤ length text
same_long text other h = let e = ap length ((bytes_eq-Decides text other).0 h) in omega arith

-- Names and nodes.

pub name_fits : ReadsFit name_of IsName (λ name. name)
unfolding name_of
name_fits text = chosen_some (Fits IsName (λ name. name) text) (is_name text) (Some text) None (λ h. (h, omega arith)) (λ h. tt)

pub node_fits : ReadsFit node_of IsOperand operand_text
unfolding node_of
node_fits text =
    chosen_some (Fits IsOperand operand_text text) (bytes_eq text (codes "$target")) (Some Target) (option_map Named (name_of text)) (λ h. (tt, same_long text (codes "$target") h))
    (λ h. mapped_some (Fits IsName (λ name. name) text) (Fits IsOperand operand_text text) Named (name_of text) (name_fits text) (λ name fits. fits))

pub aim_fits : ReadsFit aim_of IsAim aim_text
unfolding aim_of
aim_fits [] = tt
aim_fits (b ∷ bs) =
    chosen_some (Fits IsAim aim_text (b ∷ bs)) (b == 64) (option_map WindowAim (name_of bs)) (option_map PlainAim (node_of (b ∷ bs)))
    (λ h. mapped_some (Fits IsName (λ name. name) bs) (Fits IsAim aim_text (b ∷ bs)) WindowAim (name_of bs) (name_fits bs) (λ name fits. (fits.0, omega (arith, fits.1))))
    (λ h. mapped_some (Fits IsOperand operand_text (b ∷ bs)) (Fits IsAim aim_text (b ∷ bs)) PlainAim (node_of (b ∷ bs)) (node_fits (b ∷ bs)) (λ operand fits. fits))

pub dash_fits : {A : Type 0} (of : List ℕ → Option A) (Is : A → Type 0) (text_of : A → List ℕ) → ReadsFit of Is text_of → ReadsFit (or_dash of) (IfSome Is) (dash_or text_of)
unfolding or_dash
dash_fits {A} of Is text_of h text =
    chosen_some (Fits (IfSome Is) (dash_or text_of) text) (bytes_eq text (codes "-")) (Some None) (option_map (λ value. Some value) (of text)) (λ e. (tt, same_long text (codes "-") e))
    (λ e. mapped_some (Fits Is text_of text) (Fits (IfSome Is) (dash_or text_of) text) (λ (value : A). Some value) (of text) (h text) (λ value fits. fits))

pub just_fits : (word : List ℕ) → ReadsFit (just word) (λ unit. Unit {0}) (λ unit. word)
unfolding just
just_fits word text = chosen_some (Fits (λ unit. Unit {0}) (λ unit. word) text) (bytes_eq text word) (Some tt) None (λ h. (tt, same_long text word h)) (λ h. tt)

-- Tables of fixed words.

pub keyword_fits : {A : Type 0} (text_of : A → List ℕ) (ks : List (Keyword A)) → Each (λ word value. word ≡ text_of value) ks → ReadsFit (lookup ks) (λ value. Unit {0}) text_of
keyword_fits text_of ks each text =
    if_some (Fits (λ value. Unit {0}) text_of text) (lookup ks text)
    (λ value found. let same : text ≡ text_of value = subst (IfSome (λ value. text ≡ text_of value)) found (looked_up (λ word value. word ≡ text_of value) ks each text) in
    let e = ap length same in (tt, omega arith))

-- Numbers.

length_bound : (found : Option ℕ) → ((number : ℕ) → found ≡ Some number → number ≤ 100000000) → IfSome IsLength (option_map (λ hundredths. hundredths * 64 / 100) found)
length_bound None h = tt
length_bound (Some number) h = let small = h number refl in omega arith

pub length_fits : ReadsFit length_of IsLength length_text
length_fits text =
    if_some (Fits IsLength length_text text) (length_of text)
    (λ units found. (subst (IfSome IsLength) (sym (length_of_is text) ∙ found) (length_bound (form_of 100000000 7 2 (codes "px") text) (λ number e. in_bound 100000000 7 2 number (codes "px") text e)), length_shorter text units found))

pub percent_fits : ReadsFit percent_of IsPercentage percent_text
percent_fits text =
    if_some (Fits IsPercentage percent_text text) (percent_of text)
    (λ hundredths found. (in_bound 1000000 7 2 hundredths (codes "%") text (sym (percent_of_is text) ∙ found), percent_shorter text hundredths found))

-- A sign changes nothing of a number's size.

sized : (negative : Bool) (number : ℕ) → unsigned_abs (with_sign negative number) ≡ number
sized false number = ap unsigned_abs (plus_is number)
sized true zero = ap unsigned_abs minus_zero
sized true (suc number) = ap unsigned_abs (minus_suc number)

signed_within : (of : List ℕ → Option ℕ) (bound : ℕ) → ((text : List ℕ) → IfSome (λ number. number ≤ bound) (of text)) → (text : List ℕ)
    → IfSome (λ (number : ℤ). unsigned_abs number ≤ bound) (signed_by of text)
signed_within of bound h text =
    let Within : ℤ → Type 0 = λ number. unsigned_abs number ≤ bound in
    subst (IfSome Within) (sym (signed_by_is of text))
    (mapped_some (λ number. number ≤ bound) Within (with_sign (begins_with 45 text)) (of (unsigned text)) (h (unsigned text))
    (λ number small. let e = sized (begins_with 45 text) number in omega arith))

lengths_within : (text : List ℕ) → IfSome (λ number. number ≤ 64000000) (length_of text)
lengths_within text =
    if_some (λ number. number ≤ 64000000) (length_of text)
    (λ units found. (subst (IfSome (Fits IsLength length_text text)) found (length_fits text)).0)

pub signed_fits : ReadsFit signed_of (λ units. IsLength (unsigned_abs units)) signed_text
unfolding signed_of
signed_fits text =
    if_some (Fits (λ units. IsLength (unsigned_abs units)) signed_text text) (signed_of text)
    (λ units found. (subst (IfSome (λ (number : ℤ). unsigned_abs number ≤ 64000000)) found (signed_within length_of 64000000 lengths_within text), signed_shorter text units found))

percents_within : (text : List ℕ) → IfSome (λ number. number ≤ 1000000) (percent_of text)
percents_within text =
    if_some (λ number. number ≤ 1000000) (percent_of text)
    (λ hundredths found. (subst (IfSome (Fits IsPercentage percent_text text)) found (percent_fits text)).0)

pub signed_percent_fits : ReadsFit signed_percent_of (λ hundredths. IsPercentage (unsigned_abs hundredths)) signed_percent_text
unfolding signed_percent_of
signed_percent_fits text =
    if_some (Fits (λ hundredths. IsPercentage (unsigned_abs hundredths)) signed_percent_text text) (signed_percent_of text)
    (λ hundredths found. (subst (IfSome (λ (number : ℤ). unsigned_abs number ≤ 1000000)) found (signed_within percent_of 1000000 percents_within text), signed_percent_shorter text hundredths found))

-- Numbers with at most four decimals.

fraction_bound : (long value : ℕ) → long ≤ 4 → value < 10 ^ long → value * 10 ^ (4 - long) ≤ 9999
fraction_bound zero value short small = omega arith
fraction_bound (suc zero) value short small = omega arith
fraction_bound (suc (suc zero)) value short small = omega arith
fraction_bound (suc (suc (suc zero))) value short small = omega arith
fraction_bound (suc (suc (suc (suc zero)))) value short small = omega arith
fraction_bound (suc (suc (suc (suc (suc long))))) value short small = absurd (omega arith)

form_bound : (text : List ℕ) (number : ℕ) → FormRead 9 4 number [] text → number ≤ 9999999999999
form_bound text number found =
    let whole : digits_value found.digits ≤ 999999999 = nine_digits found.digits found.all found.few in
    let behind = fraction_bound (length found.fraction) (digits_value found.fraction) found.short (fraction_small found.fraction found.all_behind) in
    let value = found.value_is in
    omega arith

numbers_within : (text : List ℕ) → IfSome (λ number. number ≤ 9999999999999) (ten_thousandths_of text)
numbers_within text =
    let Within : ℕ → Type 0 = λ number. number ≤ 9999999999999 in
    subst (IfSome Within) (sym (ten_thousandths_of_is text))
    (chosen_some Within (has_form 9 4 [] text) (Some (scaled 4 text)) None (λ h. form_bound text (scaled 4 text) (form_read 9 4 [] text h)) (λ h. tt))

pub number_fits : ReadsFit number_of IsNumber number_text
unfolding number_of
number_fits text =
    if_some (Fits IsNumber number_text text) (number_of text)
    (λ number found. (subst (IfSome IsNumber) found (signed_within ten_thousandths_of 9999999999999 numbers_within text), number_shorter text number found))

-- Whole numbers.

decimal_fits : (places n : ℕ) → 0 < places → n < 10 ^ places → n ≤ 1000000000000 → length (decimal n) ≤ places
decimal_fits zero n some fits small = absurd (omega arith)
decimal_fits (suc k) n some fits small = decimal_short n k (omega arith) fits

whole_digits : (text : List ℕ) → is_whole text ≡ true → IfSome (Fits (λ number. number ≤ 1000000000000) decimal text) (at_most 1000000000000 (digits_value text))
unfolding at_most
whole_digits text h =
    let parts = and_parts _ _ (and_parts _ _ (sym (is_whole_is text) ∙ h)).0 in
    let number : ℕ = digits_value text in
    chosen_some (Fits (λ number. number ≤ 1000000000000) decimal text) (nat_le number 1000000000000) (Some number) None
    (λ e. let small = leb-true number 1000000000000 e in (small, decimal_fits (length text) number (ltb-true 0 (length text) parts.0) (fraction_small text parts.1) small)) (λ e. tt)

pub whole_fits : ReadsFit whole_of (λ number. number ≤ 1000000000000) decimal
whole_fits text =
    let Whole : ℕ → Type 0 = Fits (λ number. number ≤ 1000000000000) decimal text in
    subst (IfSome Whole) (sym (whole_of_is text)) (chosen_some Whole (is_whole text) (at_most 1000000000000 (digits_value text)) None (whole_digits text) (λ h. tt))
