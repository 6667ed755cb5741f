-- Lengths that are read as the units that they write.
use Rattle.std.proofs.Common.{◌≡◌, ◌∙◌, refl, sym, ap, subst, ℕ, zero, suc, ◌+◌, ◌*◌, ◌/◌, ◌%◌, ◌^◌, ◌<◌, ◌≤◌, ◌⊎◌, Bool, true, false, cond, not, ◌&&◌, ◌||◌, nat_lt, List, [], ◌∷◌, ◌++◌, length, drop, Option, Some, None, ℤ, pos, negsuc, arith}
use Rattle.std.specs.Prelude.{take_while, ◌==◌, bytes_eq, option_map}
use Rattle.std.specs.List.{list_all}
use Rattle.std.proofs.lemmas.Bool.{and_parts, eqb-true, ne_eqb, ltb-true, lt-ltb, le-ltb}
use Rattle.std.proofs.lemmas.List.Folds.{list_all-append}
use Rattle.std.proofs.lemmas.List.Sums.{take_while-cons}
use Rattle.std.proofs.lemmas.Slice.Eq.{bytes_eq-Decides}
use Rattle.std.proofs.lemmas.Int.{ints}
use Rattle.word_model.specs.Names.{is_digit}
use Rattle.word_model.specs.Numbers.{decimal, at_most, leading_digits, behind_digits}
use Rattle.word_model.proofs.Values.{not_above}
use Rattle.px_units.specs.Texts.{sign_text, rest_text, pixel_text}
use Rattle.px_units.specs.Rects.{InReach}
use Rattle.px_units.proofs.Decimals.{passes_below, passes, either}
use Rattle.word_model.proofs.RoundTrip.{decimal_digits, decimal_length}
use Rattle.trace_text.specs.Fields.{is_field_byte}
use Rattle.trace_text.specs.Reading.{◌>>=◌, number_of, are_decimals, sixty_fourths, decimals_of, rest_of, magnitude_of, negative, pixels_of}
use Rattle.trace_text.proofs.Exact.{Exact, some_same, parts, chosen}
use Rattle.word_model.proofs.Spelled.{digits_first}
use Rattle.trace_text.proofs.Numerals.{number_exact, digits_field, at_most_some, leading_first, behind_first}

-- ---- each of the 64 rests of a pixel, computed

-- the decimals behind the point
abbrev decimals : ℕ → List ℕ
decimals rest = drop 1 (rest_text rest)

reads_back : ℕ → Bool
reads_back rest = rest == 0 || (are_decimals (decimals rest) rest && bytes_eq (rest_text rest) (46 ∷ decimals rest) && sixty_fourths (decimals rest) == rest)

is_clean : ℕ → Bool
is_clean rest = list_all is_field_byte (rest_text rest)

all_read : passes_below reads_back 64 ≡ true
unfolding passes_below reads_back are_decimals sixty_fourths rest_text
all_read = refl

all_clean : passes_below is_clean 64 ≡ true
unfolding passes_below is_clean rest_text
all_clean = refl

rest_clean : (rest : ℕ) → rest < 64 → list_all is_field_byte (rest_text rest) ≡ true
unfolding is_clean
rest_clean rest h = passes is_clean 64 rest all_clean h

read_again : (rest : ℕ) → 0 < rest → rest < 64 → (are_decimals (decimals rest) rest ≡ true) × (rest_text rest ≡ 46 ∷ decimals rest) × (sixty_fourths (decimals rest) ≡ rest)
unfolding reads_back
read_again rest some small =
    let all : (are_decimals (decimals rest) rest && bytes_eq (rest_text rest) (46 ∷ decimals rest) && sixty_fourths (decimals rest) == rest) ≡ true =
    either (rest == 0) _ (ne_eqb rest 0 (λ e. omega arith)) (passes reads_back 64 rest all_read small) in
    let last = and_parts (are_decimals (decimals rest) rest && bytes_eq (rest_text rest) (46 ∷ decimals rest)) (sixty_fourths (decimals rest) == rest) all in
    let front = and_parts (are_decimals (decimals rest) rest) (bytes_eq (rest_text rest) (46 ∷ decimals rest)) last.0 in
    (front.0, (bytes_eq-Decides (rest_text rest) (46 ∷ decimals rest)).0 front.1, eqb-true (sixty_fourths (decimals rest)) rest last.1)

no_rest : rest_text 0 ≡ []
unfolding rest_text
no_rest = refl

-- ---- the decimals of a number of 64ths are those and no others

nothing_left : (left : ℕ) → (left == 0) ≡ true → not (left == 0) ≡ true → ⊥
nothing_left left none some = cc

one_text : (ds es : List ℕ) (left : ℕ) → are_decimals ds left ≡ true → are_decimals es left ≡ true → ds ≡ es
unfolding are_decimals
one_text [] [] left h g = refl
one_text [] (e ∷ es) left h g =
    absurd (nothing_left left h (and_parts (not (left == 0)) (e == 48 + left * 10 / 64) (and_parts (not (left == 0) && e == 48 + left * 10 / 64) (are_decimals es (left * 10 % 64)) g).0).0)
one_text (d ∷ ds) [] left h g =
    absurd (nothing_left left g (and_parts (not (left == 0)) (d == 48 + left * 10 / 64) (and_parts (not (left == 0) && d == 48 + left * 10 / 64) (are_decimals ds (left * 10 % 64)) h).0).0)
one_text (d ∷ ds) (e ∷ es) left h g =
    let x = and_parts (not (left == 0) && d == 48 + left * 10 / 64) (are_decimals ds (left * 10 % 64)) h in
    let y = and_parts (not (left == 0) && e == 48 + left * 10 / 64) (are_decimals es (left * 10 % 64)) g in
    let first : d ≡ 48 + left * 10 / 64 = eqb-true d (48 + left * 10 / 64) (and_parts (not (left == 0)) (d == 48 + left * 10 / 64) x.0).1 in
    let second : e ≡ 48 + left * 10 / 64 = eqb-true e (48 + left * 10 / 64) (and_parts (not (left == 0)) (e == 48 + left * 10 / 64) y.0).1 in
    ap (λ a. a ∷ ds) (first ∙ sym second) ∙ ap (λ xs. e ∷ xs) (one_text ds es (left * 10 % 64) x.1 y.1)

decimals_sound : (ds : List ℕ) (rest : ℕ) → decimals_of ds ≡ Some rest → (rest_text rest ≡ 46 ∷ ds) × (rest < 64)
unfolding decimals_of
decimals_sound ds rest h =
    let n : ℕ = sixty_fourths ds in
    let c : ((nat_lt 0 n && nat_lt n 64 && are_decimals ds n) ≡ true) × (Some n ≡ Some rest) = chosen (nat_lt 0 n && nat_lt n 64 && are_decimals ds n) (Some n) rest h in
    let e : n ≡ rest = some_same n rest c.1 in
    let last = and_parts (nat_lt 0 n && nat_lt n 64) (are_decimals ds n) c.0 in
    let range = and_parts (nat_lt 0 n) (nat_lt n 64) last.0 in
    let some : 0 < n = ltb-true 0 n range.0 in
    let small : n < 64 = ltb-true n 64 range.1 in
    let again = read_again n some small in
    let T : ℕ → Type 0 = λ m. (rest_text m ≡ 46 ∷ ds) × (m < 64) in
    subst T e (again.1 ∙ ap (λ xs. 46 ∷ xs) (one_text (decimals n) ds n again.0 last.1), small)

decimals_complete : (rest : ℕ) → 0 < rest → rest < 64 → decimals_of (decimals rest) ≡ Some rest
unfolding decimals_of
decimals_complete rest some small =
    let again = read_again rest some small in
    ap (λ n. cond (nat_lt 0 n && nat_lt n 64 && are_decimals (decimals rest) n) (Some n) None) again.2
    ∙ ap (λ b. cond (b && nat_lt rest 64 && are_decimals (decimals rest) rest) (Some rest) None) (lt-ltb 0 rest some)
    ∙ ap (λ b. cond (b && are_decimals (decimals rest) rest) (Some rest) None) (lt-ltb rest 64 small)
    ∙ ap (λ b. cond b (Some rest) None) again.0

rest_sound : (text : List ℕ) (rest : ℕ) → rest_of text ≡ Some rest → (rest_text rest ≡ text) × (rest < 64)
unfolding rest_of
rest_sound [] rest h =
    let e : 0 ≡ rest = some_same 0 rest h in
    (ap rest_text (sym e) ∙ no_rest, omega arith)
rest_sound (b ∷ bs) rest h =
    let c : ((b == 46) ≡ true) × (decimals_of bs ≡ Some rest) = chosen (b == 46) (decimals_of bs) rest h in
    let d = decimals_sound bs rest c.1 in
    (d.0 ∙ ap (λ a. a ∷ bs) (sym (eqb-true b 46 c.0)), d.1)

rest_of_point : (ds : List ℕ) → rest_of (46 ∷ ds) ≡ decimals_of ds
unfolding rest_of
rest_of_point ds = refl

rest_of_nothing : rest_of [] ≡ Some 0
unfolding rest_of
rest_of_nothing = refl

rest_complete : (rest : ℕ) → rest < 64 → rest_of (rest_text rest) ≡ Some rest
rest_complete zero h = ap rest_of no_rest ∙ rest_of_nothing
rest_complete (suc n) h = ap rest_of (read_again (suc n) (omega arith) h).1 ∙ rest_of_point (decimals (suc n)) ∙ decimals_complete (suc n) (omega arith) h

rest_stops : (rest : ℕ) → rest < 64 → take_while is_digit (rest_text rest) ≡ []
rest_stops zero h = ap (take_while is_digit) no_rest
rest_stops (suc n) h = ap (take_while is_digit) (read_again (suc n) (omega arith) h).1 ∙ take_while-cons is_digit 46 (decimals (suc n))

-- ---- lengths without a sign

abbrev magnitude_text : ℕ → List ℕ
magnitude_text units = decimal (units / 64) ++ rest_text (units % 64)

pixels : Exact (number_of (2 ^ 44)) decimal (λ n. n < 2 ^ 44 + 1)
pixels = number_exact (2 ^ 44) (2 ^ 44 + 1) refl (omega arith)

magnitude_sound : (text : List ℕ) (units : ℕ) → magnitude_of text ≡ Some units → (magnitude_text units ≡ text) × (units ≤ 2 ^ 50)
unfolding magnitude_of
magnitude_sound text units h =
    let a = parts (number_of (2 ^ 44) (leading_digits text)) (λ whole. rest_of (behind_digits text) >>= λ rest. at_most (2 ^ 50) (whole * 64 + rest)) units h in
    let b = parts (rest_of (behind_digits text)) (λ rest. at_most (2 ^ 50) (a.0 * 64 + rest)) units a.2 in
    let c : (a.0 * 64 + b.0 ≤ 2 ^ 50) × (a.0 * 64 + b.0 ≡ units) = at_most_some (2 ^ 50) (a.0 * 64 + b.0) units b.2 in
    let x : (decimal a.0 ≡ leading_digits text) × (a.0 < 2 ^ 44 + 1) = pixels.sound (leading_digits text) a.0 a.1 in
    let y : (rest_text b.0 ≡ behind_digits text) × (b.0 < 64) = rest_sound (behind_digits text) b.0 b.1 in
    let whole : units / 64 ≡ a.0 = omega arith in
    let rest : units % 64 ≡ b.0 = omega arith in (
      ap (λ n. decimal n ++ rest_text (units % 64)) whole ∙ ap (λ n. decimal a.0 ++ rest_text n) rest
          ∙ ap (λ ds. ds ++ rest_text b.0) x.0 ∙ ap (λ ds. leading_digits text ++ ds) y.0 ∙ digits_first text,
      omega arith,
    )

magnitude_complete : (units : ℕ) → units ≤ 2 ^ 50 → magnitude_of (magnitude_text units) ≡ Some units
unfolding magnitude_of
magnitude_complete units h =
    let whole : ℕ = units / 64 in
    let rest : ℕ = units % 64 in
    let below : whole < 2 ^ 44 + 1 = omega arith in
    let small : rest < 64 = omega arith in
    let sum : whole * 64 + rest ≡ units = omega arith in
    let digits : list_all is_digit (decimal whole) ≡ true = decimal_digits whole (omega arith) in
    ap (λ ds. number_of (2 ^ 44) ds >>= λ w. rest_of (behind_digits (magnitude_text units)) >>= λ r. at_most (2 ^ 50) (w * 64 + r)) (leading_first (decimal whole) (rest_text rest) digits (rest_stops rest small))
    ∙ ap (λ o. o >>= λ w. rest_of (behind_digits (magnitude_text units)) >>= λ r. at_most (2 ^ 50) (w * 64 + r)) (pixels.complete whole below).0
    ∙ ap (λ ds. rest_of ds >>= λ r. at_most (2 ^ 50) (whole * 64 + r)) (behind_first (decimal whole) (rest_text rest) digits (rest_stops rest small))
    ∙ ap (λ o. o >>= λ r. at_most (2 ^ 50) (whole * 64 + r)) (rest_complete rest small)
    ∙ ap (at_most (2 ^ 50)) sum ∙ not_above (2 ^ 50) units h

magnitude_clean : (units : ℕ) → units ≤ 2 ^ 50 → list_all is_field_byte (magnitude_text units) ≡ true
magnitude_clean units h =
    let whole : ℕ = units / 64 in
    let rest : ℕ = units % 64 in
    list_all-append is_field_byte (decimal whole) (rest_text rest)
    ∙ ap (λ b. b && list_all is_field_byte (rest_text rest)) (digits_field (decimal whole) (decimal_digits whole (omega arith)))
    ∙ rest_clean rest (omega arith)

-- ---- signs

positive_text : (units : ℕ) → pixel_text (pos units) ≡ magnitude_text units
unfolding pixel_text sign_text
positive_text units = ap (λ b. cond b (45 ∷ []) [] ++ decimal (units / 64) ++ rest_text (units % 64)) (le-ltb units 0 (omega arith))

negative_text : (n : ℕ) → pixel_text (negsuc n) ≡ 45 ∷ magnitude_text (suc n)
unfolding pixel_text sign_text
negative_text n = refl

pub negative_is : (n : ℕ) → negative (suc n) ≡ Some (negsuc n)
unfolding negative
negative_is n = ap (λ b. cond b None (Some (negsuc n))) (ne_eqb (suc n) 0 (λ e. omega arith))

pub negative_sound : (units : ℕ) (z : ℤ) → negative units ≡ Some z → (n : ℕ) × (units ≡ suc n) × (z ≡ negsuc n)
unfolding negative
negative_sound zero z h = absurd (let no : ⊥ = cc in no)
negative_sound (suc n) z h = (n, refl, sym (some_same (negsuc n) z (sym (negative_is n) ∙ h)))

pub mapped : (o : Option ℕ) (z : ℤ) → option_map pos o ≡ Some z → (units : ℕ) × (o ≡ Some units) × (z ≡ pos units)
mapped None z h = absurd (let no : ⊥ = cc in no)
mapped (Some units) z h = (units, refl, sym (some_same (pos units) z h))

pub in_reach_below : (n : ℕ) → suc n ≤ 2 ^ 50 → InReach (negsuc n)
in_reach_below n h = record { low = omega (arith, ints); high = omega (arith, ints) }

pub in_reach_above : (units : ℕ) → units ≤ 2 ^ 50 → InReach (pos units)
in_reach_above units h = record { low = omega (arith, ints); high = omega (arith, ints) }

pub pixels_sound : (field : List ℕ) (z : ℤ) → pixels_of field ≡ Some z → (pixel_text z ≡ field) × InReach z
unfolding pixels_of
pixels_sound [] z h = absurd (let no : ⊥ = cc in no)
pixels_sound (b ∷ bs) z h = by_sign (b == 45) refl h where
  minus : b == 45 ≡ true → (magnitude_of bs >>= negative) ≡ Some z → (pixel_text z ≡ b ∷ bs) × InReach z
  minus is read =
      let a = parts (magnitude_of bs) negative z read in
      let n = negative_sound a.0 z a.2 in
      let m : (magnitude_text a.0 ≡ bs) × (a.0 ≤ 2 ^ 50) = magnitude_sound bs a.0 a.1 in
      let text : magnitude_text (suc n.0) ≡ bs = ap magnitude_text (sym n.1) ∙ m.0 in (
        ap pixel_text n.2 ∙ negative_text n.0 ∙ ap (λ t. 45 ∷ t) text ∙ ap (λ a. a ∷ bs) (sym (eqb-true b 45 is)),
        subst InReach (sym n.2) (in_reach_below n.0 (omega arith)),
      )

  plain : option_map pos (magnitude_of (b ∷ bs)) ≡ Some z → (pixel_text z ≡ b ∷ bs) × InReach z
  plain read =
      let a = mapped (magnitude_of (b ∷ bs)) z read in
      let m : (magnitude_text a.0 ≡ b ∷ bs) × (a.0 ≤ 2 ^ 50) = magnitude_sound (b ∷ bs) a.0 a.1 in
      (ap pixel_text a.2 ∙ positive_text a.0 ∙ m.0, subst InReach (sym a.2) (in_reach_above a.0 m.1))

  by_sign : (v : Bool) → b == 45 ≡ v → cond v (magnitude_of bs >>= negative) (option_map pos (magnitude_of (b ∷ bs))) ≡ Some z → (pixel_text z ≡ b ∷ bs) × InReach z
  by_sign true is read = minus is read
  by_sign false is read = plain read

-- a text that begins with a digit has no sign
digit_unsigned : (text : List ℕ) (digits : List ℕ) (rest : List ℕ) → text ≡ digits ++ rest → 0 < length digits → list_all is_digit digits ≡ true → pixels_of text ≡ option_map pos (magnitude_of text)
unfolding pixels_of
digit_unsigned text [] rest e some all = absurd (omega arith)
digit_unsigned [] (d ∷ ds) rest e some all = absurd (let no : ⊥ = cc in no)
digit_unsigned (b ∷ bs) (d ∷ ds) rest e some all =
    let first : b ≡ d = cc in
    let digit : is_digit b ≡ true = ap is_digit first ∙ (and_parts (is_digit d) (list_all is_digit ds) all).0 in
    ap (λ v. cond v (magnitude_of bs >>= negative) (option_map pos (magnitude_of (b ∷ bs)))) (ne_eqb b 45 (λ is. let no : false ≡ true = sym (ap is_digit is) ∙ digit in cc))

pixels_complete : (z : ℤ) → InReach z → (pixels_of (pixel_text z) ≡ Some z) × (list_all is_field_byte (pixel_text z) ≡ true)
unfolding pixels_of
pixels_complete (pos units) reach =
    let h : units ≤ 2 ^ 50 = let high = reach.high in omega (arith, ints) in (
      ap pixels_of (positive_text units)
          ∙ digit_unsigned (magnitude_text units) (decimal (units / 64)) (rest_text (units % 64)) refl (decimal_length (units / 64) (omega arith)) (decimal_digits (units / 64) (omega arith))
          ∙ ap (option_map pos) (magnitude_complete units h),
      ap (list_all is_field_byte) (positive_text units) ∙ magnitude_clean units h,
    )
pixels_complete (negsuc n) reach =
    let h : suc n ≤ 2 ^ 50 = let low = reach.low in omega (arith, ints) in (
      ap pixels_of (negative_text n) ∙ ap (λ o. o >>= negative) (magnitude_complete (suc n) h) ∙ negative_is n,
      ap (list_all is_field_byte) (negative_text n) ∙ magnitude_clean (suc n) h,
    )

pub pixels_exact : Exact pixels_of pixel_text InReach
pixels_exact = record { sound = pixels_sound; complete = pixels_complete }
