-- What is read of an inset's word, with what stands below closed.
use Rattle.std.proofs.Common.{◌≡◌, ℕ, ℤ, Bool, true, false, cond, List, Option, Some, None, refl, ap, ◌∙◌}
use Rattle.std.specs.Prelude.{option_map, bytes_eq, codes}
use Rattle.word_model.specs.Numbers.{signed_of, signed_percent_of}
use Rattle.px_units.specs.Lengths.{InsetValue, AutomaticInset, InsetPixels, InsetPercentage}
use Rattle.script_model.specs.Properties.{either_of, inset_of}

inset_by : Bool → Option ℤ → Option ℤ → Option InsetValue
inset_by auto units hundredths = cond auto (Some AutomaticInset) (either_of (option_map InsetPixels units) (option_map InsetPercentage hundredths))

inset_of_is : (text : List ℕ) → inset_of text ≡ inset_by (bytes_eq text (codes "auto")) (signed_of text) (signed_percent_of text)
unfolding inset_of inset_by
inset_of_is text = refl

by_auto : (units hundredths : Option ℤ) → inset_by true units hundredths ≡ Some AutomaticInset
unfolding inset_by
by_auto units hundredths = refl

by_units : (units : ℤ) (hundredths : Option ℤ) → inset_by false (Some units) hundredths ≡ Some (InsetPixels units)
unfolding inset_by either_of
by_units units hundredths = refl

by_percent : (hundredths : Option ℤ) → inset_by false None hundredths ≡ option_map InsetPercentage hundredths
unfolding inset_by either_of
by_percent hundredths = refl

pub inset_auto : (text : List ℕ) → bytes_eq text (codes "auto") ≡ true → inset_of text ≡ Some AutomaticInset
inset_auto text auto = inset_of_is text ∙ ap (λ a. inset_by a (signed_of text) (signed_percent_of text)) auto ∙ by_auto (signed_of text) (signed_percent_of text)

pub inset_units : (text : List ℕ) (units : ℤ) → bytes_eq text (codes "auto") ≡ false → signed_of text ≡ Some units → inset_of text ≡ Some (InsetPixels units)
inset_units text units auto found =
    inset_of_is text ∙ ap (λ a. inset_by a (signed_of text) (signed_percent_of text)) auto ∙ ap (λ u. inset_by false u (signed_percent_of text)) found ∙ by_units units (signed_percent_of text)

pub inset_percent : (text : List ℕ) → bytes_eq text (codes "auto") ≡ false → signed_of text ≡ None → inset_of text ≡ option_map InsetPercentage (signed_percent_of text)
inset_percent text auto none =
    inset_of_is text ∙ ap (λ a. inset_by a (signed_of text) (signed_percent_of text)) auto ∙ ap (λ u. inset_by false u (signed_percent_of text)) none ∙ by_percent (signed_percent_of text)
