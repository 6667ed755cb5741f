-- Media query lists: their text, and which viewports they match (Media Queries 4, 2 and 3; the grammar is a subset of the standard's,
-- without nesting, `<` and `>`). A reader looks only at the next byte, and fails at the first byte with which the text so far can't be
-- the beginning of a list. Its fault is the number of bytes left at that point; 0 means that the text ended within a list.
use Rattle.std.specs.Prelude.{ℕ, zero, suc, ◌+◌, ◌-◌, ◌*◌, ◌/◌, Bool, true, false, cond, not, ◌&&◌, ◌||◌, ◌==◌, nat_le, List, [], ◌∷◌, length, Result, Ok, Err, codes}
use Rattle.std.specs.List.{list_all, list_any}
use Rattle.word_model.specs.Names.{is_digit}
use Rattle.word_model.specs.Numbers.{begins_with}
use Rattle.script_model.specs.Readers.{◌>>=◌, with_fault, is_empty}
use Rattle.script_model.specs.Queries.{Comparison, Exactly, AtLeast, AtMost, Feature, WidthFeature, HeightFeature, OrientationFeature, MediaType, AllMedia, ScreenMedia, PrintMedia, Prefix, NoPrefix, NotPrefix, OnlyPrefix, MediaQuery, Typed, NotFeature, AllFeatures, AnyFeatures}

-- a value with the bytes after it, or a fault
abbrev pub Read : Type 0 → Type 0
Read A = Result (A × List ℕ) ℕ

unfoldable pub byte_at : ℕ → List ℕ → Result (List ℕ) ℕ
byte_at byte [] = Err 0
byte_at byte (b ∷ bs) = cond (b == byte) (Ok bs) (Err (length (b ∷ bs)))

unfoldable pub word_at : List ℕ → List ℕ → Result (List ℕ) ℕ
unfolding byte_at
word_at [] text = Ok text
word_at (w ∷ ws) text = byte_at w text >>= λ rest. word_at ws rest

abbrev pub is_blank : ℕ → Bool
is_blank b = b == 32 || b == 9

-- the text after zero or more spaces or tabs
unfoldable pub skip : List ℕ → List ℕ
skip [] = []
skip (b ∷ bs) = cond (is_blank b) (skip bs) (b ∷ bs)

-- the text after one or more of them
unfoldable pub gap_at : List ℕ → Result (List ℕ) ℕ
unfolding skip
gap_at [] = Err 0
gap_at (b ∷ bs) = cond (is_blank b) (Ok (skip bs)) (Err (length (b ∷ bs)))

-- reads this word, which stands for a value
unfoldable pub says : {A : Type 0} → List ℕ → A → List ℕ → Read A
unfolding word_at
says word value text = word_at word text >>= λ rest. Ok (value, rest)

unfoldable pub medium_at : List ℕ → Read MediaType
unfolding begins_with says
medium_at text =
    cond (begins_with 97 text) (says (codes "all") AllMedia text)
    (cond (begins_with 115 text) (says (codes "screen") ScreenMedia text) (says (codes "print") PrintMedia text))

-- Lengths. A digit that would make the number greater than the largest one can't be part of a length, so digits are read up to a
-- maximum.

abbrev pub with_digit : ℕ → ℕ → ℕ
with_digit value b = value * 10 + (b - 48)

abbrev pub is_digit_under : ℕ → ℕ → ℕ → Bool
is_digit_under most value b = is_digit b && nat_le (with_digit value b) most

-- reads one more digit of a number
unfoldable pub digit_at : ℕ → ℕ → List ℕ → Read ℕ
digit_at most value [] = Err 0
digit_at most value (b ∷ bs) =
    cond (is_digit_under most value b) (Ok (with_digit value b, bs)) (Err (length (b ∷ bs)))

-- reads up to a given number of further digits
unfoldable pub digits_at : ℕ → ℕ → ℕ → List ℕ → ℕ × List ℕ
digits_at zero most value text = (value, text)
digits_at (suc places) most value [] = (value, [])
digits_at (suc places) most value (b ∷ bs) =
    cond (is_digit_under most value b) (digits_at places most (with_digit value b) bs) (value, b ∷ bs)

-- 1 to 7 digits, at most 1,000,000
unfoldable pub whole_at : List ℕ → Read ℕ
unfolding digit_at digits_at
whole_at text = digit_at 1000000 0 text >>= λ first. Ok (digits_at 6 1000000 first.0 first.1)

-- tenths as hundredths, with the digit that may follow
unfoldable pub hundredths_at : ℕ → List ℕ → ℕ × List ℕ
hundredths_at tenths [] = (tenths * 10, [])
hundredths_at tenths (b ∷ bs) =
    cond (is_digit_under 100000000 tenths b) (with_digit tenths b, bs) (tenths * 10, b ∷ bs)

-- a number in hundredths: the whole part, optionally followed by a point and 1 or 2 digits
unfoldable pub fraction_at : ℕ → List ℕ → Read ℕ
unfolding begins_with byte_at digit_at hundredths_at
fraction_at whole text =
    cond (begins_with 46 text)
    (byte_at 46 text >>= λ rest. digit_at 10000000 whole rest >>= λ tenths. Ok (hundredths_at tenths.0 tenths.1))
    (Ok (whole * 100, text))

-- a length in units, rounded down
unfoldable pub length_at : List ℕ → Read ℕ
unfolding whole_at fraction_at word_at
length_at text =
    whole_at text >>= λ whole.
    fraction_at whole.0 whole.1 >>= λ number.
    word_at (codes "px") number.1 >>= λ rest. Ok (number.0 * 64 / 100, rest)

-- Features.

-- the dimension that a feature compares
unfoldable pub dimension_at : Comparison → List ℕ → Read (ℕ → Feature)
unfolding begins_with says
dimension_at compared text =
    cond (begins_with 119 text) (says (codes "width") (WidthFeature compared) text)
    (says (codes "height") (HeightFeature compared) text)

-- a `:` with the spaces and tabs around it
unfoldable pub colon_at : List ℕ → Result (List ℕ) ℕ
unfolding byte_at skip
colon_at text = byte_at 58 (skip text) >>= λ rest. Ok (skip rest)

unfoldable pub sized_at : Comparison → List ℕ → Read Feature
unfolding dimension_at colon_at length_at
sized_at compared text =
    dimension_at compared text >>= λ dimension.
    colon_at dimension.1 >>= λ rest. length_at rest >>= λ units. Ok (dimension.0 units.0, units.1)

-- `min-` or `max-` before a dimension
unfoldable pub bounded_at : List ℕ → Read Feature
unfolding byte_at begins_with word_at sized_at
bounded_at text =
    byte_at 109 text >>= λ rest.
    cond (begins_with 105 rest) (word_at (codes "in-") rest >>= λ name. sized_at AtLeast name)
    (word_at (codes "ax-") rest >>= λ name. sized_at AtMost name)

unfoldable pub oriented_at : List ℕ → Read Feature
unfolding word_at colon_at begins_with says
oriented_at text =
    word_at (codes "orientation") text >>= λ name.
    colon_at name >>= λ rest.
    cond (begins_with 112 rest) (says (codes "portrait") (OrientationFeature true) rest)
    (says (codes "landscape") (OrientationFeature false) rest)

unfoldable pub tested_at : List ℕ → Read Feature
unfolding begins_with bounded_at oriented_at sized_at
tested_at text =
    cond (begins_with 109 text) (bounded_at text)
    (cond (begins_with 111 text) (oriented_at text) (sized_at Exactly text))

-- a feature in its parentheses
unfoldable pub feature_at : List ℕ → Read Feature
unfolding byte_at skip tested_at
feature_at text =
    byte_at 40 text >>= λ inside.
    tested_at (skip inside) >>= λ feature. byte_at 41 (skip feature.1) >>= λ rest. Ok (feature.0, rest)

-- Queries.

-- whether the text or a comma ends the query here
unfoldable pub query_ends : List ℕ → Bool
unfolding is_empty begins_with skip
query_ends text = is_empty text || begins_with 44 (skip text)

-- `and` or `or` with spaces or tabs on both sides, and a feature
unfoldable pub joined_at : List ℕ → List ℕ → Read Feature
unfolding gap_at word_at feature_at
joined_at joint text =
    gap_at text >>= λ next. word_at joint next >>= λ rest. gap_at rest >>= λ inside. feature_at inside

-- features joined in this way, up to the end of the query; the first argument is more than the number of features that there can be
unfoldable pub more_at : ℕ → List ℕ → List ℕ → Read (List Feature)
unfolding query_ends joined_at
more_at zero joint text = Ok ([], text)
more_at (suc fuel) joint text =
    cond (query_ends text) (Ok ([], text))
    (joined_at joint text >>= λ feature.
    more_at fuel joint feature.1 >>= λ others. Ok (feature.0 ∷ others.0, others.1))

unfoldable pub others_at : List ℕ → List ℕ → Read (List Feature)
unfolding more_at
others_at joint text = more_at (suc (length text)) joint text

unfoldable pub typed_at : Prefix → List ℕ → Read MediaQuery
unfolding medium_at others_at
typed_at before text =
    medium_at text >>= λ medium.
    others_at (codes "and") medium.1 >>= λ features. Ok (Typed before medium.0 features.0, features.1)

unfoldable pub all_at : Feature → List ℕ → Read MediaQuery
unfolding others_at
all_at first text = others_at (codes "and") text >>= λ others. Ok (AllFeatures first others.0, others.1)

unfoldable pub any_at : Feature → List ℕ → Read MediaQuery
unfolding joined_at others_at
any_at first text =
    joined_at (codes "or") text >>= λ second.
    others_at (codes "or") second.1 >>= λ others. Ok (AnyFeatures first second.0 others.0, others.1)

-- the next byte after the spaces decides whether the features are joined by `or`
unfoldable pub features_from : Feature → List ℕ → Read MediaQuery
unfolding begins_with skip any_at all_at
features_from first text = cond (begins_with 111 (skip text)) (any_at first text) (all_at first text)

unfoldable pub condition_at : List ℕ → Read MediaQuery
unfolding feature_at features_from
condition_at text = feature_at text >>= λ first. features_from first.0 first.1

unfoldable pub not_feature_at : List ℕ → Read MediaQuery
unfolding feature_at
not_feature_at text = feature_at text >>= λ feature. Ok (NotFeature feature.0, feature.1)

unfoldable pub not_at : List ℕ → Read MediaQuery
unfolding word_at gap_at begins_with not_feature_at typed_at
not_at text =
    word_at (codes "not") text >>= λ next.
    gap_at next >>= λ rest. cond (begins_with 40 rest) (not_feature_at rest) (typed_at NotPrefix rest)

unfoldable pub only_at : List ℕ → Read MediaQuery
unfolding word_at gap_at typed_at
only_at text = word_at (codes "only") text >>= λ next. gap_at next >>= λ rest. typed_at OnlyPrefix rest

unfoldable pub query_at : List ℕ → Read MediaQuery
unfolding begins_with not_at only_at condition_at typed_at
query_at text =
    cond (begins_with 110 text) (not_at text)
    (cond (begins_with 111 text) (only_at text)
    (cond (begins_with 40 text) (condition_at text) (typed_at NoPrefix text)))

-- the queries after commas; the first argument is more than the number of queries that there can be
unfoldable pub more_queries_at : ℕ → List ℕ → Result (List MediaQuery) ℕ
unfolding is_empty byte_at skip query_at
more_queries_at zero text = Ok []
more_queries_at (suc fuel) text =
    cond (is_empty text) (Ok [])
    (byte_at 44 (skip text) >>= λ rest.
    query_at (skip rest) >>= λ query. more_queries_at fuel query.1 >>= λ others. Ok (query.0 ∷ others))

unfoldable pub queries_at : List ℕ → Result (List MediaQuery) ℕ
unfolding query_at more_queries_at
queries_at text =
    query_at text >>= λ first. more_queries_at (suc (length text)) first.1 >>= λ others. Ok (first.0 ∷ others)

-- the media query list that a text is, or the column of the first byte with which the text so far can't be the beginning of a list; one
-- past its end if the text ended within a list
unfoldable pub query_list : List ℕ → Result (List MediaQuery) ℕ
unfolding queries_at
query_list text = with_fault (λ left. length text + 1 - left) (queries_at text)

-- Matching. Sizes are in units.

abbrev pub compares : Comparison → ℕ → ℕ → Bool
compares Exactly have wanted = have == wanted
compares AtLeast have wanted = nat_le wanted have
compares AtMost have wanted = nat_le have wanted

-- a viewport is portrait if and only if its height is at least its width
abbrev pub feature_matches : ℕ → ℕ → Feature → Bool
feature_matches width height (WidthFeature compared units) = compares compared width units
feature_matches width height (HeightFeature compared units) = compares compared height units
feature_matches width height (OrientationFeature true) = nat_le width height
feature_matches width height (OrientationFeature false) = not (nat_le width height)

abbrev pub medium_matches : MediaType → Bool
medium_matches AllMedia = true
medium_matches ScreenMedia = true
medium_matches PrintMedia = false

-- `not` negates a query, `only` has no effect
abbrev pub turned : Prefix → Bool → Bool
turned NoPrefix holds = holds
turned NotPrefix holds = not holds
turned OnlyPrefix holds = holds

unfoldable pub query_matches : ℕ → ℕ → MediaQuery → Bool
query_matches width height (Typed before medium features) =
    turned before (medium_matches medium && list_all (feature_matches width height) features)
query_matches width height (NotFeature feature) = not (feature_matches width height feature)
query_matches width height (AllFeatures first others) =
    feature_matches width height first && list_all (feature_matches width height) others
query_matches width height (AnyFeatures first second others) =
    feature_matches width height first || feature_matches width height second
    || list_any (feature_matches width height) others

-- a list matches a viewport of this size if one of its queries does
unfoldable pub matches : List MediaQuery → ℕ → ℕ → Bool
unfolding query_matches
matches queries width height = list_any (query_matches width height) queries
