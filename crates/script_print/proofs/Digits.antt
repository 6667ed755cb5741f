-- Texts of numbers appended one part after the other.
use Rattle.std.proofs.Common.{◌≡◌, ℕ, zero, suc, ◌-◌, ◌<◌, ◌/◌, ◌%◌, false, cond, ◌==◌, List, [], ◌∷◌, ◌++◌, ℤ, pos, negsuc, refl, ap, sym, ◌∙◌, append_assoc, arith}
use Rattle.std.specs.Prelude.{codes, unsigned_abs, nat_lt}
use Rattle.std.proofs.lemmas.Bool.Decides.{nat_tests}
use Rattle.word_model.specs.Numbers.{decimal}
use Rattle.media_queries.specs.LengthText.{last_digit, length_text}
use Rattle.media_queries.proofs.Appends.{two_parts}
use Rattle.script_print.specs.Minus.{minus_text}
use Rattle.px_units.specs.Lengths.{Pixels, Percentage, InsetPixels, InsetPercentage}
use Rattle.script_text.specs.DeclarationText.{size_text, inset_text}
use Rattle.script_text.specs.NumberText.{all_places, places_text, percent_text, signed_text, signed_percent_text, number_text}

-- with all places: the last place is appended behind the others
with_behind : (places number : ℕ) (behind : List ℕ) → all_places places number behind ≡ all_places places number [] ++ behind
unfolding all_places
with_behind zero number behind = sym (append_assoc (decimal number) (46 ∷ []) behind)
with_behind (suc places) number behind =
    with_behind places (number / 10) (last_digit number ∷ behind)
    ∙ sym (append_assoc (all_places places (number / 10) []) (last_digit number ∷ []) behind)
    ∙ ap (λ l. l ++ behind) (sym (with_behind places (number / 10) (last_digit number ∷ [])))

pub point_pushed : (number : ℕ) (old middle new : List ℕ) → middle ≡ old ++ decimal number → new ≡ middle ++ (46 ∷ []) → new ≡ old ++ all_places 0 number []
unfolding all_places
point_pushed number old middle new e f = two_parts old (decimal number) (46 ∷ []) middle new e f

place_next : (places fewer number : ℕ) (old middle new : List ℕ) → fewer ≡ places → middle ≡ old ++ all_places fewer (number / 10) []
    → new ≡ middle ++ (last_digit number ∷ []) → new ≡ old ++ all_places (suc places) number []
unfolding all_places
place_next places fewer number old middle new less e f =
    two_parts old (all_places places (number / 10) []) (last_digit number ∷ []) middle new (e ∙ ap (λ n. old ++ all_places n (number / 10) []) less) f
    ∙ ap (λ l. old ++ l) (sym (with_behind places (number / 10) (last_digit number ∷ [])))

pub place_pushed : (places number : ℕ) (old middle new : List ℕ) → 0 < places → middle ≡ old ++ all_places (places - 1) (number / 10) []
    → new ≡ middle ++ (last_digit number ∷ []) → new ≡ old ++ all_places places number []
place_pushed zero number old middle new some e f = absurd (omega arith)
place_pushed (suc places) number old middle new some e f = place_next places (suc places - 1) number old middle new (omega arith) e f

-- without zeros at the end
pub no_places : (number : ℕ) (old new : List ℕ) → new ≡ old ++ decimal number → new ≡ old ++ places_text 0 number
unfolding places_text
no_places number old new e = e

cut : (places number : ℕ) → number % 10 ≡ 0 → places_text (suc places) number ≡ places_text places (number / 10)
unfolding places_text
cut places number e = ap (λ n. cond (n == 0) (places_text places (number / 10)) (all_places (suc places) number [])) e

pub place_cut : (places number : ℕ) (old new : List ℕ) → 0 < places → number % 10 ≡ 0 → new ≡ old ++ places_text (places - 1) (number / 10)
    → new ≡ old ++ places_text places number
place_cut zero number old new some e f = absurd (omega arith)
place_cut (suc places) number old new some e f =
    let less : suc places - 1 ≡ places = omega arith in
    f ∙ ap (λ n. old ++ places_text n (number / 10)) less ∙ ap (λ l. old ++ l) (sym (cut places number e))

kept_at : (n : ℕ) (some none : List ℕ) → 0 < n → cond (n == 0) some none ≡ none
kept_at n some none positive = let other : (n == 0) ≡ false = grind (arith, nat_tests) in ap (λ b. cond b some none) other

pub places_kept : (places number : ℕ) (old new : List ℕ) → 0 < places → 0 < number % 10 → new ≡ old ++ all_places places number []
    → new ≡ old ++ places_text places number
unfolding places_text
places_kept zero number old new some positive f = absurd (omega arith)
places_kept (suc places) number old new some positive f =
    f ∙ ap (λ l. old ++ l) (sym (kept_at (number % 10) (places_text places (number / 10)) (all_places (suc places) number []) positive))

-- percentages, and what stands behind a sign
pub percent_pushed : (hundredths : ℕ) (old middle new : List ℕ) → middle ≡ old ++ places_text 2 hundredths → new ≡ middle ++ (37 ∷ [])
    → new ≡ old ++ percent_text hundredths
unfolding percent_text
percent_pushed hundredths old middle new e f = two_parts old (places_text 2 hundredths) (codes "%") middle new e f

not_below : (n : ℕ) → nat_lt n 0 ≡ false
not_below n = grind (arith, nat_tests)

signed_is : (units : ℤ) → minus_text units ++ length_text (unsigned_abs units) ≡ signed_text units
unfolding signed_text
signed_is (pos units) = ap (λ b. cond b (45 ∷ []) [] ++ length_text units) (not_below units)
signed_is (negsuc units) = refl

pub signed_pushed : (units : ℤ) (old middle new : List ℕ) → middle ≡ old ++ minus_text units → new ≡ middle ++ length_text (unsigned_abs units)
    → new ≡ old ++ signed_text units
signed_pushed units old middle new e f =
    two_parts old (minus_text units) (length_text (unsigned_abs units)) middle new e f ∙ ap (λ l. old ++ l) (signed_is units)

signed_percent_is : (hundredths : ℤ) → minus_text hundredths ++ percent_text (unsigned_abs hundredths) ≡ signed_percent_text hundredths
unfolding signed_percent_text
signed_percent_is (pos hundredths) = ap (λ b. cond b (45 ∷ []) [] ++ percent_text hundredths) (not_below hundredths)
signed_percent_is (negsuc hundredths) = refl

pub signed_percent_pushed : (hundredths : ℤ) (old middle new : List ℕ) → middle ≡ old ++ minus_text hundredths → new ≡ middle ++ percent_text (unsigned_abs hundredths)
    → new ≡ old ++ signed_percent_text hundredths
signed_percent_pushed hundredths old middle new e f =
    two_parts old (minus_text hundredths) (percent_text (unsigned_abs hundredths)) middle new e f ∙ ap (λ l. old ++ l) (signed_percent_is hundredths)

number_is : (number : ℤ) → minus_text number ++ places_text 4 (unsigned_abs number) ≡ number_text number
unfolding number_text
number_is (pos number) = ap (λ b. cond b (45 ∷ []) [] ++ places_text 4 number) (not_below number)
number_is (negsuc number) = refl

pub number_pushed : (number : ℤ) (old middle new : List ℕ) → middle ≡ old ++ minus_text number → new ≡ middle ++ places_text 4 (unsigned_abs number)
    → new ≡ old ++ number_text number
number_pushed number old middle new e f =
    two_parts old (minus_text number) (places_text 4 (unsigned_abs number)) middle new e f ∙ ap (λ l. old ++ l) (number_is number)

-- values of declarations
pub pixels_pushed : (units : ℕ) (old new : List ℕ) → new ≡ old ++ length_text units → new ≡ old ++ size_text (Pixels units)
unfolding size_text
pixels_pushed units old new e = e

pub percentage_pushed : (hundredths : ℕ) (old new : List ℕ) → new ≡ old ++ percent_text hundredths → new ≡ old ++ size_text (Percentage hundredths)
unfolding size_text
percentage_pushed hundredths old new e = e

pub inset_pixels_pushed : (units : ℤ) (old new : List ℕ) → new ≡ old ++ signed_text units → new ≡ old ++ inset_text (InsetPixels units)
unfolding inset_text
inset_pixels_pushed units old new e = e

pub inset_percentage_pushed : (hundredths : ℤ) (old new : List ℕ) → new ≡ old ++ signed_percent_text hundredths → new ≡ old ++ inset_text (InsetPercentage hundredths)
unfolding inset_text
inset_percentage_pushed hundredths old new e = e
