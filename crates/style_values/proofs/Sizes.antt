-- What is read of a length's word, with what stands below closed.
use Rattle.std.proofs.Common.{◌≡◌, ℕ, cond, List, Option, Some, None, refl, ap, ◌∙◌}
use Rattle.std.specs.Prelude.{option_map, bytes_eq, codes}
use Rattle.word_model.specs.Numbers.{length_of, percent_of}
use Rattle.px_units.specs.Lengths.{LengthValue, Automatic, Pixels, Percentage}
use Rattle.script_model.specs.Properties.{either_of, size_of, auto_or_size_of, none_or_size_of}

either : Option ℕ → Option ℕ → Option LengthValue
either length percent = either_of (option_map Pixels length) (option_map Percentage percent)

is_either : (text : List ℕ) → size_of text ≡ either (length_of text) (percent_of text)
unfolding size_of either
is_either text = refl

of_units : (units : ℕ) (percent : Option ℕ) → either (Some units) percent ≡ Some (Pixels units)
unfolding either either_of
of_units units percent = refl

of_percent : (percent : Option ℕ) → either None percent ≡ option_map Percentage percent
unfolding either either_of
of_percent percent = refl

pub size_units : (text : List ℕ) (units : ℕ) → length_of text ≡ Some units → size_of text ≡ Some (Pixels units)
size_units text units e = is_either text ∙ ap (λ length. either length (percent_of text)) e ∙ of_units units (percent_of text)

pub size_percent : (text : List ℕ) → length_of text ≡ None → size_of text ≡ option_map Percentage (percent_of text)
size_percent text e = is_either text ∙ ap (λ length. either length (percent_of text)) e ∙ of_percent (percent_of text)

pub auto_or_size_of_is : (text : List ℕ) → auto_or_size_of text ≡ cond (bytes_eq text (codes "auto")) (Some Automatic) (size_of text)
unfolding auto_or_size_of
auto_or_size_of_is text = refl

pub none_or_size_of_is : (text : List ℕ) → none_or_size_of text ≡ cond (bytes_eq text (codes "none")) (Some None) (option_map Some (size_of text))
unfolding none_or_size_of
none_or_size_of_is text = refl
