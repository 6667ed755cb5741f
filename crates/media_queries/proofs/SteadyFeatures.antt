-- The readers of lengths and features look at no byte before they need it.
use Rattle.std.proofs.Common.{◌≡◌, ℕ, ◌*◌, ◌/◌, ◌≤◌, true, false, cond, List, [], ◌∷◌, ◌++◌, refl, arith}
use Rattle.std.specs.Prelude.{Result, Ok, Err, codes}
use Rattle.word_model.specs.Numbers.{begins_with}
use Rattle.script_model.specs.Readers.{◌>>=◌}
use Rattle.script_model.specs.Queries.{Comparison, Exactly, AtLeast, AtMost, Feature, WidthFeature, HeightFeature, OrientationFeature}
use Rattle.script_model.specs.Media.{byte_at, word_at, skip, gap_at, colon_at, says, digit_at, digits_at, whole_at, hundredths_at, fraction_at, length_at, dimension_at, sized_at, bounded_at, oriented_at, tested_at, feature_at, joined_at}
use Rattle.media_queries.proofs.Readings.{OnValue, weaker_on}
use Rattle.media_queries.proofs.DigitTexts.{NoDigit, digit_under}
use Rattle.media_queries.proofs.ShortLengths.{Number, whole_facts}
use Rattle.media_queries.proofs.Steady.{Shape, Steady, Any, same_reader, fewer_ends, whole, then_steady}
use Rattle.media_queries.proofs.SteadyParts.{texts, values, choice_steady, value_steady, byte_steady, Free, free_on, word_steady, says_steady, NoBlank, skip_steady, gap_steady, digit_steady, digits_steady, hundredths_steady}

-- behind a text, one reader after the other
module _ {Y : Type 0} (shape : Shape Y) (ends : List ℕ → Type 0) (sample : List ℕ) (second : List ℕ → Result Y ℕ) (after : Steady shape ends sample second) where
  pub byte_then : (byte : ℕ) → Steady shape ends (byte ∷ sample) (λ text. byte_at byte text >>= second)
  byte_then byte = then_steady texts shape Free ends sample second (λ x free. after) Any (byte ∷ []) (byte_at byte) (byte_steady byte) (λ text. free_on (byte_at byte text)) (λ tail h. tt)

  pub word_then : (word : List ℕ) → Steady shape ends (word ++ sample) (λ text. word_at word text >>= second)
  word_then word = then_steady texts shape Free ends sample second (λ x free. after) Any word (word_at word) (word_steady word) (λ text. free_on (word_at word text)) (λ tail h. tt)

  pub skip_then : ((tail : List ℕ) → ends tail → NoBlank (sample ++ tail)) → Steady shape ends sample (λ text. second (skip text))
  skip_then apart = then_steady texts shape Free ends sample second (λ x free. after) NoBlank [] (λ text. Ok (skip text)) skip_steady (λ text. tt) apart

  pub gap_then : ((tail : List ℕ) → ends tail → NoBlank (sample ++ tail)) → Steady shape ends (32 ∷ sample) (λ text. gap_at text >>= second)
  gap_then apart = then_steady texts shape Free ends sample second (λ x free. after) NoBlank (32 ∷ []) gap_at gap_steady (λ text. free_on (gap_at text)) apart

-- behind a value
pub value_then : {A Y : Type 0} → (shape : Shape Y) (ends first_ends : List ℕ → Type 0) (sample first_sample : List ℕ) (first : List ℕ → Result (A × List ℕ) ℕ)
    (second : A × List ℕ → Result Y ℕ) → Steady (whole (values {A = A})) first_ends first_sample first
    → ((x : A) → Steady shape ends sample (λ text. second (x, text))) → ((tail : List ℕ) → ends tail → first_ends (sample ++ tail))
    → Steady shape ends (first_sample ++ sample) (λ text. first text >>= second)
value_then {A} shape ends first_ends sample first_sample first second steady after fits =
    then_steady (values {A = A}) shape Free ends sample second (λ x free. after x.0) first_ends first_sample first steady (λ text. free_on (first text)) fits

-- Lengths.

abbrev numbers : Shape (ℕ × List ℕ)
numbers = whole (values {A = ℕ})

pub whole_steady : Steady numbers NoDigit (48 ∷ []) whole_at
unfolding whole_at
whole_steady =
    value_then numbers NoDigit Any [] (48 ∷ []) (digit_at 1000000 0) (λ first. Ok (digits_at 6 1000000 first.0 first.1)) (digit_steady 1000000 0 refl)
    (λ x. digits_steady 6 1000000 x) (λ tail h. tt)

-- neither a digit nor a point stands first
record NoFraction (tail : List ℕ) : Type 0 where
  no_digit : NoDigit tail
  no_point : begins_with 46 tail ≡ false

fraction_steady : (number : ℕ) → number ≤ 1000000 → Steady numbers NoFraction [] (fraction_at number)
unfolding fraction_at
fraction_steady number within =
    choice_steady numbers NoFraction 46 [] (46 ∷ 48 ∷ []) (λ text. byte_at 46 text >>= λ rest. digit_at 10000000 number rest >>= λ tenths. Ok (hundredths_at tenths.0 tenths.1)) (λ text. Ok (number * 100, text))
    (fewer_ends numbers NoDigit NoFraction (46 ∷ 48 ∷ []) (λ text. byte_at 46 text >>= λ rest. digit_at 10000000 number rest >>= λ tenths. Ok (hundredths_at tenths.0 tenths.1)) (λ tail h. h.no_digit)
    (byte_then numbers NoDigit (48 ∷ []) (λ rest. digit_at 10000000 number rest >>= λ tenths. Ok (hundredths_at tenths.0 tenths.1))
    (value_then numbers NoDigit Any [] (48 ∷ []) (digit_at 10000000 number) (λ tenths. Ok (hundredths_at tenths.0 tenths.1)) (digit_steady 10000000 number (digit_under 10000000 number 48 (omega arith) (omega arith) (omega arith)))
    (λ x. hundredths_steady x) (λ tail h. tt)) 46))
    (value_steady NoFraction (number * 100)) (λ tail h. h.no_point)

unit_apart : (tail : List ℕ) → NoFraction (codes "px" ++ tail)
unfolding begins_with
unit_apart tail = record { no_digit = refl; no_point = refl }

small_value : (text : List ℕ) → OnValue (λ read. read.0 ≤ 1000000) (whole_at text)
small_value text = weaker_on (Number 1000000 0 text) (λ read. read.0 ≤ 1000000) (whole_at text) (whole_facts text) (λ read h. h.under)

pub length_steady : Steady numbers Any (codes "0px") length_at
unfolding length_at
length_steady =
    then_steady (values {A = ℕ}) numbers (λ read. read.0 ≤ 1000000) Any (codes "px")
    (λ number. fraction_at number.0 number.1 >>= λ hundredths. word_at (codes "px") hundredths.1 >>= λ rest. Ok (hundredths.0 * 64 / 100, rest))
    (λ x small. value_then numbers Any NoFraction (codes "px") [] (fraction_at x.0) (λ hundredths. word_at (codes "px") hundredths.1 >>= λ rest. Ok (hundredths.0 * 64 / 100, rest)) (fraction_steady x.0 small)
    (λ hundredths. word_then numbers Any [] (λ rest. Ok (hundredths * 64 / 100, rest)) (value_steady Any (hundredths * 64 / 100)) (codes "px")) (λ tail h. unit_apart tail))
    NoDigit (48 ∷ []) whole_at whole_steady small_value (λ tail h. (unit_apart tail).no_digit)

-- Features.

abbrev dimensions : Shape ((ℕ → Feature) × List ℕ)
dimensions = whole (values {A = ℕ → Feature})

abbrev pub features : Shape (Feature × List ℕ)
features = whole (values {A = Feature})

dimension_steady : (compared : Comparison) → Steady dimensions Any (codes "height") (dimension_at compared)
unfolding dimension_at begins_with
dimension_steady compared =
    choice_steady dimensions Any 119 (codes "height") (codes "width") (says (codes "width") (WidthFeature compared)) (says (codes "height") (HeightFeature compared))
    (says_steady Any (codes "width") (WidthFeature compared)) (says_steady Any (codes "height") (HeightFeature compared)) (λ tail h. refl)

-- a `:` with the space around it
regrouped : {Y : Type 0} → (second : List ℕ → Result Y ℕ) (read : Result (List ℕ) ℕ) → (read >>= λ rest. second (skip rest)) ≡ ((read >>= λ rest. Ok (skip rest)) >>= second)
regrouped second (Ok rest) = refl
regrouped second (Err k) = refl

colon_apart : (tail : List ℕ) → NoBlank (58 ∷ tail)
unfolding skip
colon_apart tail = refl

colon_then : {Y : Type 0} → (shape : Shape Y) (sample : List ℕ) (second : List ℕ → Result Y ℕ) → Steady shape Any sample second
    → ((tail : List ℕ) → NoBlank (sample ++ tail)) → Steady shape Any (58 ∷ sample) (λ text. colon_at text >>= second)
unfolding colon_at
colon_then shape sample second steady apart =
    same_reader shape Any (58 ∷ sample) (λ text. byte_at 58 (skip text) >>= λ rest. second (skip rest)) (λ text. (byte_at 58 (skip text) >>= λ rest. Ok (skip rest)) >>= second) (λ text. regrouped second (byte_at 58 (skip text)))
    (skip_then shape Any (58 ∷ sample) (λ text. byte_at 58 text >>= λ rest. second (skip rest))
    (byte_then shape Any sample (λ rest. second (skip rest)) (skip_then shape Any sample second steady (λ tail h. apart tail)) 58) (λ tail h. colon_apart (sample ++ tail)))

zero_apart : (tail : List ℕ) → NoBlank (codes "0px" ++ tail)
unfolding skip
zero_apart tail = refl

sized_steady : (compared : Comparison) → Steady features Any (codes "height:0px") (sized_at compared)
unfolding sized_at
sized_steady compared =
    value_then features Any Any (codes ":0px") (codes "height") (dimension_at compared) (λ dimension. colon_at dimension.1 >>= λ rest. length_at rest >>= λ units. Ok (dimension.0 units.0, units.1)) (dimension_steady compared)
    (λ dimension. colon_then features (codes "0px") (λ rest. length_at rest >>= λ units. Ok (dimension units.0, units.1))
    (value_then features Any Any [] (codes "0px") length_at (λ units. Ok (dimension units.0, units.1)) length_steady (λ units. value_steady Any (dimension units)) (λ tail h. tt)) zero_apart)
    (λ tail h. tt)

bounded_steady : Steady features Any (codes "max-height:0px") bounded_at
unfolding bounded_at begins_with
bounded_steady =
    byte_then features Any (codes "ax-height:0px") (λ rest. cond (begins_with 105 rest) (word_at (codes "in-") rest >>= λ name. sized_at AtLeast name) (word_at (codes "ax-") rest >>= λ name. sized_at AtMost name))
    (choice_steady features Any 105 (codes "ax-height:0px") (codes "in-height:0px") (λ rest. word_at (codes "in-") rest >>= λ name. sized_at AtLeast name) (λ rest. word_at (codes "ax-") rest >>= λ name. sized_at AtMost name)
    (word_then features Any (codes "height:0px") (sized_at AtLeast) (sized_steady AtLeast) (codes "in-")) (word_then features Any (codes "height:0px") (sized_at AtMost) (sized_steady AtMost) (codes "ax-")) (λ tail h. refl)) 109

landscape_apart : (tail : List ℕ) → NoBlank (codes "landscape" ++ tail)
unfolding skip
landscape_apart tail = refl

oriented_steady : Steady features Any (codes "orientation:landscape") oriented_at
unfolding oriented_at begins_with
oriented_steady =
    word_then features Any (codes ":landscape") (λ name. colon_at name >>= λ rest. cond (begins_with 112 rest) (says (codes "portrait") (OrientationFeature true) rest) (says (codes "landscape") (OrientationFeature false) rest))
    (colon_then features (codes "landscape") (λ rest. cond (begins_with 112 rest) (says (codes "portrait") (OrientationFeature true) rest) (says (codes "landscape") (OrientationFeature false) rest))
    (choice_steady features Any 112 (codes "landscape") (codes "portrait") (says (codes "portrait") (OrientationFeature true)) (says (codes "landscape") (OrientationFeature false))
    (says_steady Any (codes "portrait") (OrientationFeature true)) (says_steady Any (codes "landscape") (OrientationFeature false)) (λ tail h. refl)) landscape_apart) (codes "orientation")

tested_steady : Steady features Any (codes "height:0px") tested_at
unfolding tested_at begins_with
tested_steady =
    choice_steady features Any 109 (codes "height:0px") (codes "max-height:0px") bounded_at (λ text. cond (begins_with 111 text) (oriented_at text) (sized_at Exactly text)) bounded_steady
    (choice_steady features Any 111 (codes "height:0px") (codes "orientation:landscape") oriented_at (sized_at Exactly) oriented_steady (sized_steady Exactly) (λ tail h. refl)) (λ tail h. refl)

height_apart : (tail : List ℕ) → NoBlank (codes "height:0px)" ++ tail)
unfolding skip
height_apart tail = refl

close_apart : (tail : List ℕ) → NoBlank (codes ")" ++ tail)
unfolding skip
close_apart tail = refl

pub feature_steady : Steady features Any (codes "(height:0px)") feature_at
unfolding feature_at
feature_steady =
    byte_then features Any (codes "height:0px)") (λ inside. tested_at (skip inside) >>= λ feature. byte_at 41 (skip feature.1) >>= λ rest. Ok (feature.0, rest))
    (skip_then features Any (codes "height:0px)") (λ text. tested_at text >>= λ feature. byte_at 41 (skip feature.1) >>= λ rest. Ok (feature.0, rest))
    (value_then features Any Any (codes ")") (codes "height:0px") tested_at (λ feature. byte_at 41 (skip feature.1) >>= λ rest. Ok (feature.0, rest)) tested_steady
    (λ feature. skip_then features Any (codes ")") (λ text. byte_at 41 text >>= λ rest. Ok (feature, rest)) (byte_then features Any [] (λ rest. Ok (feature, rest)) (value_steady Any feature) 41) (λ tail h. close_apart tail))
    (λ tail h. tt)) (λ tail h. height_apart tail)) 40

-- Joined features.

-- no blank stands before a word and what follows it
feature_apart : (tail : List ℕ) → NoBlank (codes "(height:0px)" ++ tail)
unfolding skip
feature_apart tail = refl

pub joined_steady : (joint : List ℕ) → ((tail : List ℕ) → NoBlank ((joint ++ codes " (height:0px)") ++ tail))
    → Steady features Any (32 ∷ (joint ++ codes " (height:0px)")) (joined_at joint)
unfolding joined_at
joined_steady joint apart =
    gap_then features Any (joint ++ codes " (height:0px)") (λ next. word_at joint next >>= λ rest. gap_at rest >>= λ inside. feature_at inside)
    (word_then features Any (codes " (height:0px)") (λ rest. gap_at rest >>= λ inside. feature_at inside)
    (gap_then features Any (codes "(height:0px)") feature_at feature_steady (λ tail h. feature_apart tail)) joint) (λ tail h. apart tail)
