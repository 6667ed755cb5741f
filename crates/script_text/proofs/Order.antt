-- Of the texts that are read as a value, none of the printed one's length comes before it in byte order.
use Rattle.std.proofs.Common.{◌≡◌, ℕ, zero, suc, ◌+◌, ◌-◌, ◌*◌, ◌/◌, ◌%◌, ◌^◌, ◌<◌, ◌≤◌, ℤ, Bool, true, false, cond, ◌&&◌, ◌||◌, ◌==◌, nat_lt, List, [], ◌∷◌, ◌++◌, length, drop, Some, None, refl, ap, sym, ◌∙◌, arith, subst, length-append, ◌⊎◌, inl, inr}
use Rattle.std.specs.Prelude.{Option, option_map, unsigned_abs, codes}
use Rattle.std.proofs.lemmas.Bool.{and_parts, ltb-true, ltb-false, lt-ltb, le-ltb, eq-eqb, eqb-true, eqb-false}
use Rattle.std.proofs.Math.Nat.{pow-suc}
use Rattle.word_model.specs.Numbers.{begins_with, decimal, digits_value, form_of, has_form, scaled, with_sign, signed_by, length_of, signed_of, percent_of, signed_percent_of, ten_thousandths_of, number_of}
use Rattle.word_model.proofs.Digits.{unsigned_is}
use Rattle.word_model.proofs.Forms.{length_of_is, percent_of_is, ten_thousandths_of_is}
use Rattle.word_model.proofs.Values.{value_from, value_from_zero, value_large, value_small, digit_range, nine_digits}
use Rattle.media_queries.specs.LengthText.{tenths_of, hundredths_of, last_digit, tenths_text, hundredths_text, length_text}
use Rattle.word_model.proofs.RoundTrip.{decimal_value, decimal_digits}
use Rattle.script_text.specs.NumberText.{places_text, percent_text, with_minus, signed_text, signed_percent_text, number_text}
use Rattle.script_text.specs.ByteOrder.{is_not_after}
use Rattle.script_text.proofs.Decimals.{AreDigits}
use Rattle.script_text.proofs.FormParts.{pointed}
use Rattle.script_text.proofs.Places.{Written, written, no_value}
use Rattle.media_queries.proofs.LengthAgain.{length_text_is, tenths_text_is, hundredths_text_is}
use Rattle.script_text.proofs.NumbersAgain.{percent_spelled, one_value, two_value, digit_all, signed_by_is}
use Rattle.script_text.proofs.Shortness.{Shorter, some_units, length_shorter, percent_shorter, ten_thousandths_shorter, tenths_long, hundredths_long, plus_is, minus_zero, minus_suc, some_same, FormRead, pointed_long, pointed_some, form_found, form_read, in_bound, last_or, digits_short, fraction_small, places_short}

same_text : (text : List ℕ) → is_not_after text text ≡ true
unfolding is_not_after
same_text [] = refl
same_text (b ∷ bs) = ap (λ t. nat_lt b b || (t && is_not_after bs bs)) (eq-eqb b b refl) ∙ ap (λ t. nat_lt b b || t) (same_text bs) ∙ or_true (nat_lt b b) where
  or_true : (t : Bool) → (t || true) ≡ true
  or_true true = refl
  or_true false = refl

lower : (b c : ℕ) (bs cs : List ℕ) → b < c → is_not_after (b ∷ bs) (c ∷ cs) ≡ true
unfolding is_not_after
lower b c bs cs h = ap (λ t. t || (b == c && is_not_after bs cs)) (lt-ltb b c h)

behind_same : (b c : ℕ) (bs cs : List ℕ) → b ≡ c → is_not_after bs cs ≡ true → is_not_after (b ∷ bs) (c ∷ cs) ≡ true
unfolding is_not_after
behind_same b c bs cs e h =
    ap (λ t. t || (b == c && is_not_after bs cs)) (le-ltb b c (omega arith)) ∙ ap (λ t. t && is_not_after bs cs) (eq-eqb b c e) ∙ h

times : (a b p : ℕ) → a ≤ b → a * p ≤ b * p
times a b zero h = omega arith
times a b (suc p) h = let e : a * p ≤ b * p = times a b p h in grind arith

three : (b c : ℕ) → (b < c) ⊎ ((b ≡ c) ⊎ (c < b))
three b c = by_less (nat_lt b c) refl where
  by_less : (t : Bool) → nat_lt b c ≡ t → (b < c) ⊎ ((b ≡ c) ⊎ (c < b))
  by_less true e = inl (ltb-true b c e)
  by_less false e = let f : c ≤ b = ltb-false b c e in inr (by_equal (b == c) refl f) where
    by_equal : (t : Bool) → (b == c) ≡ t → c ≤ b → (b ≡ c) ⊎ (c < b)
    by_equal true e f = inl (eqb-true b c e)
    by_equal false e f = let g = eqb-false b c e in inr (omega arith)

-- digits of a smaller number stand before those of a larger one with as many
ordered : (a b x y : List ℕ) (value : ℕ) → AreDigits a → AreDigits b → length a ≡ length b → value_from value a ≤ value_from value b
    → (value_from value a ≡ value_from value b → is_not_after x y ≡ true) → is_not_after (a ++ x) (b ++ y) ≡ true
ordered [] [] x y value all more long less equal = equal refl
ordered [] (c ∷ cs) x y value all more long less equal = absurd (omega arith)
ordered (b ∷ bs) [] x y value all more long less equal = absurd (omega arith)
ordered (b ∷ bs) (c ∷ cs) x y value all more long less equal =
    let first = digit_range b (and_parts _ _ all).0 in
    let second = digit_range c (and_parts _ _ more).0 in
    elim (three b c) [
      | inl below ↦ lower b c (bs ++ x) (cs ++ y) below
      | inr rest ↦ elim rest [
        | inl same ↦
            let e : value_from (value * 10 + (c - 48)) cs ≡ value_from (value * 10 + (b - 48)) cs = ap (λ n. value_from (value * 10 + (n - 48)) cs) (sym same) in
            behind_same b c (bs ++ x) (cs ++ y) same
            (ordered bs cs x y (value * 10 + (b - 48)) (and_parts _ _ all).1 (and_parts _ _ more).1 (omega arith) (omega arith) (λ f. equal (f ∙ sym e)))
        | inr above ↦
            let large = value_large bs (value * 10 + (b - 48)) in
            let small : value_from (value * 10 + (c - 48)) cs < (value * 10 + (c - 48) + 1) * 10 ^ length cs =
            value_small cs (length cs) (value * 10 + (c - 48)) (value * 10 + (c - 48) + 1) (and_parts _ _ more).1 (omega arith) (omega arith) in
            let powers : 10 ^ length cs ≡ 10 ^ length bs = let l : length cs ≡ length bs = omega arith in ap (λ n. 10 ^ n) l in
            let step : (value * 10 + (c - 48) + 1) * 10 ^ length bs ≤ (value * 10 + (b - 48)) * 10 ^ length bs =
            times (value * 10 + (c - 48) + 1) (value * 10 + (b - 48)) (10 ^ length bs) (omega (arith, first, second)) in
            let small' : value_from (value * 10 + (c - 48)) cs < (value * 10 + (c - 48) + 1) * 10 ^ length bs = subst (λ (n : ℕ). value_from (value * 10 + (c - 48)) cs < (value * 10 + (c - 48) + 1) * n) powers small in
            absurd (omega arith)
      ]
    ]

digits_ordered : (a b x y : List ℕ) → AreDigits a → AreDigits b → length a ≡ length b → digits_value a ≤ digits_value b
    → (digits_value a ≡ digits_value b → is_not_after x y ≡ true) → is_not_after (a ++ x) (b ++ y) ≡ true
digits_ordered a b x y all more long less equal =
    let e = value_from_zero a in
    let f = value_from_zero b in
    ordered a b x y 0 all more long (omega arith) (λ g. equal (e ∙ g ∙ sym f))

pointed_ordered : (f g unit : List ℕ) → AreDigits f → AreDigits g → length f ≡ length g → digits_value f ≤ digits_value g → is_not_after (pointed f unit) (pointed g unit) ≡ true
pointed_ordered [] [] unit all more long less = same_text unit
pointed_ordered [] (c ∷ cs) unit all more long less = absurd (omega arith)
pointed_ordered (b ∷ bs) [] unit all more long less = absurd (omega arith)
pointed_ordered (b ∷ bs) (c ∷ cs) unit all more long less =
    behind_same 46 46 (b ∷ (bs ++ unit)) (c ∷ (cs ++ unit)) refl (digits_ordered (b ∷ bs) (c ∷ cs) unit unit all more long less (λ e. same_text unit))

-- the whole parts with their fractions
parts_ordered : (a b f g unit : List ℕ) → AreDigits a → AreDigits b → AreDigits f → AreDigits g → length a ≡ length b → length f ≡ length g
    → digits_value a ≤ digits_value b → digits_value f ≤ digits_value g → is_not_after (a ++ pointed f unit) (b ++ pointed g unit) ≡ true
parts_ordered a b f g unit all more all_f all_g long long_f less less_f =
    digits_ordered a b (pointed f unit) (pointed g unit) all more long less (λ e. pointed_ordered f g unit all_f all_g long_f less_f)

-- Places.

scaled_small : (long places value : ℕ) → long ≤ places → value < 10 ^ long → value * 10 ^ (places - long) < 10 ^ places
scaled_small long zero value short small = let e : long ≡ 0 = omega arith in let f : value < 10 ^ 0 = subst (λ (n : ℕ). value < 10 ^ n) e small in subst (λ (n : ℕ). value * 10 ^ (0 - n) < 10 ^ 0) (sym e) (omega arith)
scaled_small long (suc places) value short small =
    elim (last_or long places short) [
      | inl fits ↦
          let next : value * 10 ^ (places - long) < 10 ^ places = scaled_small long places value fits small in
          let e : suc places - long ≡ suc (places - long) = omega arith in
          rw e (rw (pow-suc 10 places, pow-suc 10 (places - long)) (omega arith))
      | inr full ↦
          let e : suc places - long ≡ 0 = omega arith in
          let f : value < 10 ^ suc places = subst (λ (n : ℕ). value < 10 ^ n) full small in
          rw e (omega arith)
    ]

same_value : (a b power : ℕ) → a * 10 ^ power ≡ b * 10 ^ power → a ≡ b
same_value a b zero h = omega arith
same_value a b (suc power) h = let e : a * (10 ^ power * 10) ≡ b * (10 ^ power * 10) = rw (pow-suc 10 power) at h in same_value a b power (omega arith)

same_long : (a b : ℕ) → pointed_long a ≡ pointed_long b → a ≡ b
same_long zero zero h = refl
same_long zero (suc b) h = let e = pointed_some b in absurd (omega arith)
same_long (suc a) zero h = let e = pointed_some a in absurd (omega arith)
same_long (suc a) (suc b) h = let e = pointed_some a in let f = pointed_some b in omega arith

pointed_length : (fraction unit : List ℕ) → length (pointed fraction unit) ≡ pointed_long (length fraction) + length unit
pointed_length [] unit = omega arith
pointed_length (d ∷ ds) unit = let e = length-append ds unit in let f = pointed_some (length ds) in omega arith

-- a number is one whole part with one fraction
abbrev Unique : ℕ → Type 0
Unique places = (whole a other b : ℕ) → a < 10 ^ places → b < 10 ^ places → whole * 10 ^ places + a ≡ other * 10 ^ places + b → (whole ≡ other) × (a ≡ b)

written_ordered : (places most number : ℕ) (unit printed text : List ℕ) → Unique places → most ≤ 9 → (w : Written places number (places_text places number)) → w.whole < 10 ^ 39
    → printed ≡ decimal w.whole ++ pointed w.fraction unit → FormRead most places number unit text → length text ≡ length printed → is_not_after printed text ≡ true
written_ordered places most number unit printed text unique nine w small is found long =
    let whole : ℕ = digits_value found.digits in
    let value : ℕ = digits_value found.fraction in
    let first : ℕ = digits_value w.fraction in
    let k : ℕ = length found.fraction in
    let k0 : ℕ = length w.fraction in
    let below0 = fraction_small w.fraction w.all in
    let below = fraction_small found.fraction found.all_behind in
    let same = unique w.whole (digits_value w.fraction * 10 ^ (places - length w.fraction)) (digits_value found.digits) (digits_value found.fraction * 10 ^ (places - length found.fraction))
    (scaled_small (length w.fraction) places (digits_value w.fraction) w.short below0) (scaled_small (length found.fraction) places (digits_value found.fraction) found.short below) (w.value_is ∙ sym found.value_is) in
    let short : length (places_text places number) ≤ length (decimal (digits_value found.digits)) + pointed_long (length found.fraction) =
    places_short places (length found.fraction) (digits_value found.digits) (digits_value found.fraction) number found.short below found.value_is in
    let exact : length (places_text places number) ≡ length (decimal w.whole) + length (pointed w.fraction []) = ap length w.text_is ∙ length-append (decimal w.whole) (pointed w.fraction []) in
    let bare = pointed_length w.fraction [] in
    let few : length found.digits ≤ 9 = let f = found.few in omega arith in
    let digits = digits_short found.digits found.all found.some few in
    let equal : length (decimal w.whole) ≡ length (decimal (digits_value found.digits)) = ap (λ n. length (decimal n)) same.0 in
    let spelled : length printed ≡ length (decimal w.whole) + length (pointed w.fraction unit) = ap length is ∙ length-append (decimal w.whole) (pointed w.fraction unit) in
    let with_unit = pointed_length w.fraction unit in
    let whole_text = found.long in
    let longs : length (decimal w.whole) ≡ length found.digits = omega arith in
    let points : pointed_long (length w.fraction) ≡ pointed_long (length found.fraction) = omega arith in
    let counts : length w.fraction ≡ length found.fraction = same_long (length w.fraction) (length found.fraction) points in
    let scaled_same : digits_value w.fraction * 10 ^ (places - length found.fraction) ≡ digits_value found.fraction * 10 ^ (places - length found.fraction) =
    ap (λ n. digits_value w.fraction * 10 ^ (places - n)) (sym counts) ∙ same.1 in
    let values : digits_value w.fraction ≡ digits_value found.fraction = same_value (digits_value w.fraction) (digits_value found.fraction) (places - length found.fraction) scaled_same in
    let wholes : digits_value (decimal w.whole) ≡ digits_value found.digits = decimal_value w.whole small ∙ same.0 in
    ap (λ (t : List ℕ). is_not_after t text) is ∙ ap (is_not_after (decimal w.whole ++ pointed w.fraction unit)) found.text_is
    ∙ parts_ordered (decimal w.whole) found.digits w.fraction found.fraction unit (decimal_digits w.whole small) found.all w.all found.all_behind longs counts (omega arith) (omega arith)

unique_two : Unique 2
unique_two whole a other b below beside e = (omega arith, omega arith)

unique_four : Unique 4
unique_four whole a other b below beside e = (omega arith, omega arith)

percent_in_range : (text : List ℕ) (hundredths : ℕ) → percent_of text ≡ Some hundredths → hundredths ≤ 1000000
percent_in_range text hundredths h = in_bound 1000000 7 2 hundredths (codes "%") text (sym (percent_of_is text) ∙ h)

pub percent_ordered : (text : List ℕ) (hundredths : ℕ) → percent_of text ≡ Some hundredths → length text ≡ length (percent_text hundredths) → is_not_after (percent_text hundredths) text ≡ true
percent_ordered text hundredths h long =
    let found = form_found 1000000 7 2 hundredths (codes "%") text (sym (percent_of_is text) ∙ h) in
    let w = written 2 hundredths in
    let value = w.value_is in
    let range : hundredths ≤ 1000000 = percent_in_range text hundredths h in
    written_ordered 2 7 hundredths (codes "%") (percent_text hundredths) text unique_two (omega arith) w (omega arith) (percent_spelled hundredths w) found long

ten_thousandths_ordered : (text : List ℕ) (number : ℕ) → ten_thousandths_of text ≡ Some number → length text ≡ length (places_text 4 number) → is_not_after (places_text 4 number) text ≡ true
ten_thousandths_ordered text number h long = by_test (has_form 9 4 [] text) refl (sym (ten_thousandths_of_is text) ∙ h) where
  in_order : FormRead 9 4 number [] text → is_not_after (places_text 4 number) text ≡ true
  in_order found =
      let w = written 4 number in
      let value = w.value_is in
      let small : digits_value found.digits ≤ 999999999 = nine_digits found.digits found.all found.few in
      let below = scaled_small (length found.fraction) 4 (digits_value found.fraction) found.short (fraction_small found.fraction found.all_behind) in
      let number_is = found.value_is in
      written_ordered 4 9 number [] (places_text 4 number) text unique_four (omega arith) w (omega arith) w.text_is found long

  by_test : (test : Bool) → has_form 9 4 [] text ≡ test → cond test (Some (scaled 4 text)) None ≡ Some number → is_not_after (places_text 4 number) text ≡ true
  by_test true e f = let same : scaled 4 text ≡ number = cc in in_order (subst (λ (n : ℕ). FormRead 9 4 n [] text) same (form_read 9 4 [] text e))
  by_test false e f = absurd cc

-- Lengths.

-- a text with a fraction of as many digits whose number isn't smaller
fraction_ordered : (whole : ℕ) (fraction printed text : List ℕ) (number : ℕ) (found : FormRead 7 2 number (codes "px") text) → printed ≡ decimal whole ++ pointed fraction (codes "px") → whole < 10 ^ 39 → AreDigits fraction
    → whole ≡ digits_value found.digits → length (decimal whole) ≡ length found.digits → length fraction ≡ length found.fraction → digits_value fraction ≤ digits_value found.fraction → is_not_after printed text ≡ true
fraction_ordered whole fraction printed text number found is small all same longs counts less =
    let wholes : digits_value (decimal whole) ≡ digits_value found.digits = decimal_value whole small ∙ same in
    ap (λ (t : List ℕ). is_not_after t text) is ∙ ap (is_not_after (decimal whole ++ pointed fraction (codes "px"))) found.text_is
    ∙ parts_ordered (decimal whole) found.digits fraction found.fraction (codes "px") (decimal_digits whole small) found.all all found.all_behind longs counts (omega arith) less

some_places : (long whole value number units : ℕ) → long ≤ 2 → value < 10 ^ long → whole * 100 + value * 10 ^ (2 - long) ≡ number → number * 64 / 100 ≡ units → (units % 64 ≡ 0 → ⊥) → 1 ≤ long
some_places zero whole value number units short small h e none = absurd (none (omega arith))
some_places (suc long) whole value number units short small h e none = omega arith

two_places : (long whole value number units : ℕ) → long ≤ 2 → value < 10 ^ long → whole * 100 + value * 10 ^ (2 - long) ≡ number → number * 64 / 100 ≡ units
    → (units % 64 ≡ 0 → ⊥) → (tenths_of units * 64 / 10 ≡ units → ⊥) → long ≡ 2
two_places zero whole value number units short small h e none no_tenths = absurd (none (omega arith))
two_places (suc zero) whole value number units short small h e none no_tenths = absurd (no_tenths (omega arith))
two_places (suc (suc zero)) whole value number units short small h e none no_tenths = refl
two_places (suc (suc (suc long))) whole value number units short small h e none no_tenths = absurd (omega arith)

no_places : (long : ℕ) → pointed_long long ≤ 0 → long ≡ 0
no_places zero h = refl
no_places (suc long) h = let e = pointed_some long in absurd (omega arith)

one_place : (long : ℕ) → 1 ≤ long → pointed_long long ≤ 2 → long ≡ 1
one_place zero some h = absurd (omega arith)
one_place (suc long) some h = let e = pointed_some long in omega arith

-- what a text has in common with the printed one
record LengthRead (units : ℕ) (text : List ℕ) : Type 0 where
  number : ℕ
  found : FormRead 7 2 number (codes "px") text
  same : number * 64 / 100 ≡ units
  below : digits_value found.fraction < 10 ^ length found.fraction
  whole : units / 64 ≡ digits_value found.digits
  digits : length (decimal (units / 64)) ≤ length found.digits
  bound : units ≤ 64000000

length_read : (text : List ℕ) (units : ℕ) → length_of text ≡ Some units → LengthRead units text
length_read text units h =
    let read = some_units (form_of 100000000 7 2 (codes "px") text) units (sym (length_of_is text) ∙ h) in
    let found = form_found 100000000 7 2 read.0 (codes "px") text read.1 in
    let range = in_bound 100000000 7 2 read.0 (codes "px") text read.1 in
    let same = read.2 in
    let below = fraction_small found.fraction found.all_behind in
    let scaled_below = scaled_small (length found.fraction) 2 (digits_value found.fraction) found.short below in
    let value = found.value_is in
    let few : length found.digits ≤ 9 = let f = found.few in omega arith in
    let digits = digits_short found.digits found.all found.some few in
    let whole : units / 64 ≡ digits_value found.digits = omega arith in
    let equal : length (decimal (units / 64)) ≡ length (decimal (digits_value found.digits)) = ap (λ n. length (decimal n)) whole in
    record { number = read.0; found = found; same = same; below = below; whole = whole; digits = omega arith; bound = omega arith }

whole_ordered : (text : List ℕ) (units : ℕ) (r : LengthRead units text) → length text ≡ length (decimal (units / 64) ++ codes "px") → is_not_after (decimal (units / 64) ++ codes "px") text ≡ true
whole_ordered text units r long =
    let bound = r.bound in
    let digits = r.digits in
    let whole_text = r.found.long in
    let printed = length-append (decimal (units / 64)) (codes "px") in
    let none : length r.found.fraction ≡ 0 = no_places (length r.found.fraction) (omega arith) in
    let points : pointed_long (length r.found.fraction) ≡ 0 = ap pointed_long none in
    fraction_ordered (units / 64) [] (decimal (units / 64) ++ codes "px") text r.number r.found refl (omega arith) refl r.whole (omega arith) (omega arith) (omega (arith, no_value))

tenths_ordered : (text : List ℕ) (units : ℕ) (r : LengthRead units text) → (units % 64 ≡ 0 → ⊥) → tenths_of units * 64 / 10 ≡ units → length text ≡ length (tenths_text (tenths_of units))
    → is_not_after (tenths_text (tenths_of units)) text ≡ true
tenths_ordered text units r none cut long =
    let bound = r.bound in
    let digits = r.digits in
    let value : ℕ = digits_value r.found.fraction in
    let whole_text = r.found.long in
    let printed = tenths_long units (units / 64) refl cut in
    let some = some_places (length r.found.fraction) (digits_value r.found.digits) (digits_value r.found.fraction) r.number units r.found.short r.below r.found.value_is r.same none in
    let one : length r.found.fraction ≡ 1 = one_place (length r.found.fraction) some (omega arith) in
    let points : pointed_long (length r.found.fraction) ≡ 2 = ap pointed_long one in
    let number_is : digits_value r.found.digits * 100 + digits_value r.found.fraction * 10 ≡ r.number =
    subst (λ (n : ℕ). digits_value r.found.digits * 100 + digits_value r.found.fraction * 10 ^ (2 - n) ≡ r.number) one r.found.value_is in
    let below : digits_value r.found.fraction < 10 = subst (λ (n : ℕ). digits_value r.found.fraction < 10 ^ n) one r.below in
    let same = r.same in
    let whole = r.whole in
    let tenth : tenths_of units / 10 ≡ units / 64 = omega arith in
    let last = one_value (last_digit (tenths_of units)) in
    fraction_ordered (tenths_of units / 10) (last_digit (tenths_of units) ∷ []) (tenths_text (tenths_of units)) text r.number r.found (tenths_text_is (tenths_of units)) (omega arith)
    (digit_all (tenths_of units) [] refl) (tenth ∙ r.whole) (ap (λ n. length (decimal n)) tenth ∙ omega arith) (sym one) (omega arith)

hundredths_ordered : (text : List ℕ) (units : ℕ) (r : LengthRead units text) → (units % 64 ≡ 0 → ⊥) → (tenths_of units * 64 / 10 ≡ units → ⊥) → length text ≡ length (hundredths_text (hundredths_of units))
    → is_not_after (hundredths_text (hundredths_of units)) text ≡ true
hundredths_ordered text units r none no_tenths long =
    let bound = r.bound in
    let digits = r.digits in
    let whole_text = r.found.long in
    let printed = hundredths_long units (units / 64) refl in
    let two = two_places (length r.found.fraction) (digits_value r.found.digits) (digits_value r.found.fraction) r.number units r.found.short r.below r.found.value_is r.same none no_tenths in
    let points : pointed_long (length r.found.fraction) ≡ 3 = ap pointed_long two in
    let number_is : digits_value r.found.digits * 100 + digits_value r.found.fraction * 1 ≡ r.number =
    subst (λ (n : ℕ). digits_value r.found.digits * 100 + digits_value r.found.fraction * 10 ^ (2 - n) ≡ r.number) two r.found.value_is in
    let below : digits_value r.found.fraction < 100 = subst (λ (n : ℕ). digits_value r.found.fraction < 10 ^ n) two r.below in
    let same = r.same in
    let whole = r.whole in
    let hundredth : hundredths_of units / 100 ≡ units / 64 = omega arith in
    let last = two_value (last_digit (hundredths_of units / 10)) (last_digit (hundredths_of units)) in
    fraction_ordered (hundredths_of units / 100) (last_digit (hundredths_of units / 10) ∷ last_digit (hundredths_of units) ∷ []) (hundredths_text (hundredths_of units)) text r.number r.found
    (hundredths_text_is (hundredths_of units)) (omega arith) (digit_all (hundredths_of units / 10) (last_digit (hundredths_of units) ∷ []) (digit_all (hundredths_of units) [] refl))
    (hundredth ∙ r.whole) (ap (λ n. length (decimal n)) hundredth ∙ omega arith) (sym two) (omega arith)

pub length_ordered : (text : List ℕ) (units : ℕ) → length_of text ≡ Some units → length text ≡ length (length_text units) → is_not_after (length_text units) text ≡ true
length_ordered text units h long =
    let r = length_read text units h in
    subst (λ (t : List ℕ). length text ≡ length t → is_not_after t text ≡ true) (sym (length_text_is units))
    (elim (units % 64 == 0) as (λ none. (units % 64 == 0) ≡ none
    → length text ≡ length (cond none (decimal (units / 64) ++ codes "px") (cond (tenths_of units * 64 / 10 == units) (tenths_text (tenths_of units)) (hundredths_text (hundredths_of units))))
    → is_not_after (cond none (decimal (units / 64) ++ codes "px") (cond (tenths_of units * 64 / 10 == units) (tenths_text (tenths_of units)) (hundredths_text (hundredths_of units)))) text ≡ true) [
      | true ↦ λ e l. whole_ordered text units r l
      | false ↦ λ e. elim (tenths_of units * 64 / 10 == units) as (λ cut. (tenths_of units * 64 / 10 == units) ≡ cut
          → length text ≡ length (cond cut (tenths_text (tenths_of units)) (hundredths_text (hundredths_of units)))
          → is_not_after (cond cut (tenths_text (tenths_of units)) (hundredths_text (hundredths_of units))) text ≡ true) [
            | true ↦ λ f l. tenths_ordered text units r (eqb-false (units % 64) 0 e) (eqb-true (tenths_of units * 64 / 10) units f) l
            | false ↦ λ f l. hundredths_ordered text units r (eqb-false (units % 64) 0 e) (eqb-false (tenths_of units * 64 / 10) units f) l
          ] refl
    ] refl) long

-- A sign.

abbrev Ordered : (List ℕ → Option ℕ) → (ℕ → List ℕ) → Type 0
Ordered of text_of = (text : List ℕ) (number : ℕ) → of text ≡ Some number → length text ≡ length (text_of number) → is_not_after (text_of number) text ≡ true

abbrev InOrder : (ℕ → List ℕ) → List ℕ → ℤ → Type 0
InOrder text_of text number = length text ≡ length (with_minus number (text_of (unsigned_abs number))) → is_not_after (with_minus number (text_of (unsigned_abs number))) text ≡ true

sign_ordered : (of : List ℕ → Option ℕ) (text_of : ℕ → List ℕ) → Shorter of text_of → Ordered of text_of → (rest : List ℕ) (number : ℤ) (sign : Bool) (found : Option ℕ) → of rest ≡ found
    → option_map (with_sign sign) found ≡ Some number → InOrder text_of (cond sign (45 ∷ rest) rest) number
sign_ordered of text_of shorter order rest number sign None f h = absurd cc
sign_ordered of text_of shorter order rest number false (Some n) f h = subst (InOrder text_of rest) (sym (plus_is n) ∙ some_same (with_sign false n) number h) (λ long. order rest n f long)
sign_ordered of text_of shorter order rest number true (Some zero) f h =
    let s : length (text_of 0) ≤ length rest = shorter rest 0 f in
    subst (InOrder text_of (45 ∷ rest)) (sym minus_zero ∙ some_same (with_sign true 0) number h) (λ long. absurd (omega arith))
sign_ordered of text_of shorter order rest number true (Some (suc n)) f h =
    subst (InOrder text_of (45 ∷ rest)) (sym (minus_suc n) ∙ some_same (with_sign true (suc n)) number h) (λ long. behind_same 45 45 (text_of (suc n)) rest refl (order rest (suc n) f (omega arith)))

minus_first : (text : List ℕ) → begins_with 45 text ≡ true → 45 ∷ drop 1 text ≡ text
unfolding begins_with
minus_first [] h = absurd cc
minus_first (b ∷ bs) h = ap (λ c. c ∷ bs) (sym (eqb-true b 45 h))

signed_ordered_by : (of : List ℕ → Option ℕ) (text_of : ℕ → List ℕ) → Shorter of text_of → Ordered of text_of → (text : List ℕ) (number : ℤ) → signed_by of text ≡ Some number → InOrder text_of text number
signed_ordered_by of text_of shorter order text number h =
    let read : option_map (with_sign (begins_with 45 text)) (of (cond (begins_with 45 text) (drop 1 text) text)) ≡ Some number =
    ap (λ (t : List ℕ). option_map (with_sign (begins_with 45 text)) (of t)) (sym (unsigned_is text)) ∙ sym (signed_by_is of text) ∙ h in
    elim (begins_with 45 text) as (λ sign. begins_with 45 text ≡ sign → option_map (with_sign sign) (of (cond sign (drop 1 text) text)) ≡ Some number → InOrder text_of text number) [
      | true ↦ λ e r. subst (λ (t : List ℕ). InOrder text_of t number) (minus_first text e) (sign_ordered of text_of shorter order (drop 1 text) number true (of (drop 1 text)) refl r)
      | false ↦ λ e r. sign_ordered of text_of shorter order text number false (of text) refl r
    ] refl read

pub signed_ordered : (text : List ℕ) (units : ℤ) → signed_of text ≡ Some units → length text ≡ length (signed_text units) → is_not_after (signed_text units) text ≡ true
unfolding signed_of signed_text
signed_ordered text units h long = signed_ordered_by length_of length_text length_shorter length_ordered text units h long

pub signed_percent_ordered : (text : List ℕ) (hundredths : ℤ) → signed_percent_of text ≡ Some hundredths → length text ≡ length (signed_percent_text hundredths) → is_not_after (signed_percent_text hundredths) text ≡ true
unfolding signed_percent_of signed_percent_text
signed_percent_ordered text hundredths h long = signed_ordered_by percent_of percent_text percent_shorter percent_ordered text hundredths h long

pub number_ordered : (text : List ℕ) (number : ℤ) → number_of text ≡ Some number → length text ≡ length (number_text number) → is_not_after (number_text number) text ≡ true
unfolding number_of number_text
number_ordered text number h long = signed_ordered_by ten_thousandths_of (places_text 4) ten_thousandths_shorter ten_thousandths_ordered text number h long
