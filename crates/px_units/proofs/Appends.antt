-- Texts appended one after the other.
use Rattle.std.proofs.Common.{◌≡◌, ℕ, ◌/◌, ◌%◌, List, ◌++◌, length, take, refl, ap, sym, ◌∙◌, append_assoc, ℤ}
use Rattle.std.specs.Prelude.{unsigned_abs}
use Rattle.std.proofs.Math.Seq.{take-append_seam}
use Rattle.word_model.specs.Numbers.{decimal}
use Rattle.px_units.specs.Texts.{sign_text, rest_text, pixel_text}

pub begins : (old more new : List ℕ) → new ≡ old ++ more → take (length old) new ≡ old
begins old more new e = ap (λ l. take (length old) l) e ∙ take-append_seam old more

pub begins_again : (old sign digits middle new : List ℕ) → middle ≡ old ++ sign → new ≡ middle ++ digits → take (length old) new ≡ old
begins_again old sign digits middle new e f = begins old (sign ++ digits) new (f ∙ ap (λ l. l ++ digits) e ∙ append_assoc old sign digits)

pixel_text_is : (units : ℤ) → pixel_text units ≡ sign_text units ++ decimal (unsigned_abs units / 64) ++ rest_text (unsigned_abs units % 64)
unfolding pixel_text
pixel_text_is units = refl

joined : (old sign digits rest : List ℕ) → old ++ sign ++ digits ++ rest ≡ old ++ (sign ++ digits ++ rest)
joined old sign digits rest = simp append_assoc

pub printed : (old first second new : List ℕ) (units : ℤ) → first ≡ old ++ sign_text units → second ≡ first ++ decimal (unsigned_abs units / 64)
    → new ≡ second ++ rest_text (unsigned_abs units % 64) → new ≡ old ++ pixel_text units
printed old first second new units e f g =
    let digits : List ℕ = decimal (unsigned_abs units / 64) in
    let rest : List ℕ = rest_text (unsigned_abs units % 64) in
    g ∙ ap (λ l. l ++ rest) f ∙ ap (λ l. l ++ digits ++ rest) e ∙ joined old (sign_text units) digits rest ∙ ap (λ l. old ++ l) (sym (pixel_text_is units))
