-- Whole numbers with a sign that are read as the numbers that they write.
use Rattle.std.proofs.Common.{◌≡◌, ◌∙◌, sym, ap, subst, ℕ, suc, ◌+◌, ◌^◌, ◌<◌, ◌≤◌, refl, Bool, true, false, cond, List, [], ◌∷◌, ◌++◌, length, Some, ℤ, pos, negsuc, arith}
use Rattle.std.specs.Prelude.{◌==◌, option_map}
use Rattle.std.specs.List.{list_all}
use Rattle.std.proofs.lemmas.Bool.{and_parts, eqb-true, ne_eqb, le-ltb}
use Rattle.std.proofs.lemmas.Int.{ints}
use Rattle.word_model.specs.Names.{is_digit}
use Rattle.word_model.specs.Numbers.{decimal}
use Rattle.word_model.proofs.RoundTrip.{decimal_digits, decimal_length}
use Rattle.px_units.specs.Texts.{sign_text}
use Rattle.px_units.specs.Rects.{InReach}
use Rattle.script_model.specs.TraceText.{whole_text}
use Rattle.trace_text.specs.Fields.{is_field_byte}
use Rattle.trace_text.specs.Reading.{◌>>=◌, number_of, negative, whole_of}
use Rattle.trace_text.proofs.Exact.{Exact, parts}
use Rattle.trace_text.proofs.Numerals.{number_exact}
use Rattle.trace_text.proofs.Pixels.{negative_is, negative_sound, mapped, in_reach_below, in_reach_above}

counts : Exact (number_of (2 ^ 50)) decimal (λ n. n < 2 ^ 50 + 1)
counts = number_exact (2 ^ 50) (2 ^ 50 + 1) refl (omega arith)

positive_text : (n : ℕ) → whole_text (pos n) ≡ decimal n
unfolding whole_text sign_text
positive_text n = ap (λ b. cond b (45 ∷ []) [] ++ decimal n) (le-ltb n 0 (omega arith))

negative_text : (n : ℕ) → whole_text (negsuc n) ≡ 45 ∷ decimal (suc n)
unfolding whole_text sign_text
negative_text n = refl

whole_sound : (field : List ℕ) (z : ℤ) → whole_of field ≡ Some z → (whole_text z ≡ field) × InReach z
unfolding whole_of
whole_sound [] z h = absurd (let no : ⊥ = cc in no)
whole_sound (b ∷ bs) z h = by_sign (b == 45) refl h where
  minus : b == 45 ≡ true → (number_of (2 ^ 50) bs >>= negative) ≡ Some z → (whole_text z ≡ b ∷ bs) × InReach z
  minus is read =
      let a = parts (number_of (2 ^ 50) bs) negative z read in
      let n = negative_sound a.0 z a.2 in
      let m : (decimal a.0 ≡ bs) × (a.0 < 2 ^ 50 + 1) = counts.sound bs a.0 a.1 in
      let text : decimal (suc n.0) ≡ bs = ap decimal (sym n.1) ∙ m.0 in (
        ap whole_text n.2 ∙ negative_text n.0 ∙ ap (λ t. 45 ∷ t) text ∙ ap (λ a. a ∷ bs) (sym (eqb-true b 45 is)),
        subst InReach (sym n.2) (in_reach_below n.0 (omega arith)),
      )

  plain : option_map pos (number_of (2 ^ 50) (b ∷ bs)) ≡ Some z → (whole_text z ≡ b ∷ bs) × InReach z
  plain read =
      let a = mapped (number_of (2 ^ 50) (b ∷ bs)) z read in
      let m : (decimal a.0 ≡ b ∷ bs) × (a.0 < 2 ^ 50 + 1) = counts.sound (b ∷ bs) a.0 a.1 in
      (ap whole_text a.2 ∙ positive_text a.0 ∙ m.0, subst InReach (sym a.2) (in_reach_above a.0 (omega arith)))

  by_sign : (v : Bool) → b == 45 ≡ v → cond v (number_of (2 ^ 50) bs >>= negative) (option_map pos (number_of (2 ^ 50) (b ∷ bs))) ≡ Some z → (whole_text z ≡ b ∷ bs) × InReach z
  by_sign true is read = minus is read
  by_sign false is read = plain read

-- a text that begins with a digit has no sign
unsigned : (text : List ℕ) → 0 < length text → list_all is_digit text ≡ true → whole_of text ≡ option_map pos (number_of (2 ^ 50) text)
unfolding whole_of
unsigned [] some all = absurd (omega arith)
unsigned (b ∷ bs) some all =
    let digit : is_digit b ≡ true = (and_parts (is_digit b) (list_all is_digit bs) all).0 in
    ap (λ v. cond v (number_of (2 ^ 50) bs >>= negative) (option_map pos (number_of (2 ^ 50) (b ∷ bs)))) (ne_eqb b 45 (λ is. let no : false ≡ true = sym (ap is_digit is) ∙ digit in cc))

whole_complete : (z : ℤ) → InReach z → (whole_of (whole_text z) ≡ Some z) × (list_all is_field_byte (whole_text z) ≡ true)
unfolding whole_of
whole_complete (pos n) reach =
    let h : n ≤ 2 ^ 50 = let high = reach.high in omega (arith, ints) in
    let c = counts.complete n (omega arith) in (
      ap whole_of (positive_text n) ∙ unsigned (decimal n) (decimal_length n (omega arith)) (decimal_digits n (omega arith)) ∙ ap (option_map pos) c.0,
      ap (list_all is_field_byte) (positive_text n) ∙ c.1,
    )
whole_complete (negsuc n) reach =
    let h : suc n ≤ 2 ^ 50 = let low = reach.low in omega (arith, ints) in
    let c = counts.complete (suc n) (omega arith) in (
      ap whole_of (negative_text n) ∙ ap (λ o. o >>= negative) c.0 ∙ negative_is n,
      ap (list_all is_field_byte) (negative_text n) ∙ c.1,
    )

pub whole_exact : Exact whole_of whole_text InReach
whole_exact = record { sound = whole_sound; complete = whole_complete }
