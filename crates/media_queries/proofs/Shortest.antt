-- No text that is read as a list is shorter than the printed one, and the lengths of a list that was read are within the
-- largest one.
use Rattle.std.proofs.Common.{◌≡◌, ℕ, zero, suc, ◌+◌, ◌-◌, ◌≤◌, true, false, cond, List, [], ◌∷◌, length, refl, ap, ◌∙◌, arith, subst, length-append}
use Rattle.std.specs.Prelude.{Result, Ok, Err, codes}
use Rattle.word_model.specs.Numbers.{begins_with}
use Rattle.script_model.specs.Readers.{◌>>=◌, with_fault, is_empty}
use Rattle.script_model.specs.Queries.{Comparison, Exactly, AtLeast, AtMost, Feature, WidthFeature, HeightFeature, OrientationFeature, MediaType, AllMedia, ScreenMedia, PrintMedia, Prefix, NoPrefix, NotPrefix, OnlyPrefix, MediaQuery, Typed, NotFeature, AllFeatures, AnyFeatures}
use Rattle.script_model.specs.Media.{byte_at, word_at, skip, gap_at, colon_at, says, medium_at, length_at, dimension_at, sized_at, bounded_at, oriented_at, tested_at, feature_at, query_ends, joined_at, more_at, others_at, typed_at, all_at, any_at, features_from, condition_at, not_feature_at, not_at, only_at, query_at, more_queries_at, queries_at, query_list}
use Rattle.media_queries.specs.LengthText.{length_text}
use Rattle.media_queries.specs.QueryText.{comparison_text, feature_text, joined_text, medium_text, prefix_text, query_text, commas_text, list_text}
use Rattle.media_queries.proofs.Readings.{OnValue, then_on, either_on, weaker_on}
use Rattle.media_queries.proofs.ReadsBack.{IsWithin, AreWithin, IsQueryWithin, AreQueriesWithin, listed, printed_again}
use Rattle.media_queries.proofs.ShortLengths.{Leaves, byte_leaves, word_leaves, skip_leaves, gap_leaves, colon_leaves, says_leaves, Shown, length_shown}

-- Features.

width_long : (compared : Comparison) (units : ℕ) → length (feature_text (WidthFeature compared units)) ≡ length (comparison_text compared) + length (length_text units) + 8
unfolding feature_text
width_long compared units = simp length-append (omega arith)

height_long : (compared : Comparison) (units : ℕ) → length (feature_text (HeightFeature compared units)) ≡ length (comparison_text compared) + length (length_text units) + 9
unfolding feature_text
height_long compared units = simp length-append (omega arith)

-- the feature of a dimension is no longer printed than it was written so far
abbrev Dimension : Comparison → List ℕ → (ℕ → Feature) × List ℕ → Type 0
Dimension compared text read =
    (units : ℕ) → units ≤ 64000000
    → IsWithin (read.0 units) × (length (feature_text (read.0 units)) + length read.1 ≤ length (comparison_text compared) + length (length_text units) + length text + 3)

dimension_shown : (compared : Comparison) (text : List ℕ) → OnValue (Dimension compared text) (dimension_at compared text)
unfolding dimension_at
dimension_shown compared text =
    either_on (Dimension compared text) (begins_with 119 text) (says (codes "width") (WidthFeature compared) text) (says (codes "height") (HeightFeature compared) text)
    (says_leaves (Dimension compared text) (codes "width") (WidthFeature compared) text (λ rest h units within. (within, omega (arith, width_long compared units, h))))
    (says_leaves (Dimension compared text) (codes "height") (HeightFeature compared) text (λ rest h units within. (within, omega (arith, height_long compared units, h))))

-- a feature is no longer printed than so many bytes and what was read
record Tested (before : ℕ) (text : List ℕ) (read : Feature × List ℕ) : Type 0 where
  within : IsWithin read.0
  shorter : length (feature_text read.0) + length read.1 ≤ before + length text

sized_shown : (compared : Comparison) (text : List ℕ) → OnValue (Tested (length (comparison_text compared) + 2) text) (sized_at compared text)
unfolding sized_at
sized_shown compared text =
    then_on (Dimension compared text) (Tested (length (comparison_text compared) + 2) text) (dimension_at compared text)
    (λ dimension. colon_at dimension.1 >>= λ rest. length_at rest >>= λ units. Ok (dimension.0 units.0, units.1)) (dimension_shown compared text)
    (λ dimension d. then_on (Leaves 1 dimension.1) (Tested (length (comparison_text compared) + 2) text) (colon_at dimension.1)
    (λ rest. length_at rest >>= λ units. Ok (dimension.0 units.0, units.1)) (colon_leaves dimension.1)
    (λ rest c. then_on (Shown rest) (Tested (length (comparison_text compared) + 2) text) (length_at rest)
    (λ units. Ok (dimension.0 units.0, units.1)) (length_shown rest)
    (λ units l. let feature = d units.0 l.within in let short = l.shorter in record { within = feature.0; shorter = omega (arith, feature.1, short, c) })))

bound : (compared : Comparison) (word text rest : List ℕ) → Leaves 1 text rest → length word ≡ 3 → length (comparison_text compared) ≡ 4
    → OnValue (Tested 2 text) (word_at word rest >>= λ name. sized_at compared name)
bound compared word text rest h three four =
    then_on (Leaves (length word) rest) (Tested 2 text) (word_at word rest) (λ name. sized_at compared name) (word_leaves word rest)
    (λ name n. weaker_on (Tested (length (comparison_text compared) + 2) name) (Tested 2 text) (sized_at compared name) (sized_shown compared name)
    (λ read t. let short = t.shorter in record { within = t.within; shorter = omega (arith, short, n, h, three, four) }))

bounded_shown : (text : List ℕ) → OnValue (Tested 2 text) (bounded_at text)
unfolding bounded_at
bounded_shown text =
    then_on (Leaves 1 text) (Tested 2 text) (byte_at 109 text)
    (λ rest. cond (begins_with 105 rest) (word_at (codes "in-") rest >>= λ name. sized_at AtLeast name) (word_at (codes "ax-") rest >>= λ name. sized_at AtMost name)) (byte_leaves 109 text)
    (λ rest h. either_on (Tested 2 text) (begins_with 105 rest) (word_at (codes "in-") rest >>= λ name. sized_at AtLeast name) (word_at (codes "ax-") rest >>= λ name. sized_at AtMost name)
    (bound AtLeast (codes "in-") text rest h refl refl) (bound AtMost (codes "ax-") text rest h refl refl))

oriented_shown : (text : List ℕ) → OnValue (Tested 2 text) (oriented_at text)
unfolding oriented_at feature_text
oriented_shown text =
    then_on (Leaves 11 text) (Tested 2 text) (word_at (codes "orientation") text)
    (λ name. colon_at name >>= λ rest. cond (begins_with 112 rest) (says (codes "portrait") (OrientationFeature true) rest) (says (codes "landscape") (OrientationFeature false) rest)) (word_leaves (codes "orientation") text)
    (λ name h. then_on (Leaves 1 name) (Tested 2 text) (colon_at name)
    (λ rest. cond (begins_with 112 rest) (says (codes "portrait") (OrientationFeature true) rest) (says (codes "landscape") (OrientationFeature false) rest)) (colon_leaves name)
    (λ rest c. either_on (Tested 2 text) (begins_with 112 rest) (says (codes "portrait") (OrientationFeature true) rest) (says (codes "landscape") (OrientationFeature false) rest)
    (says_leaves (Tested 2 text) (codes "portrait") (OrientationFeature true) rest (λ more p. record { within = tt; shorter = omega (arith, p, c, h) }))
    (says_leaves (Tested 2 text) (codes "landscape") (OrientationFeature false) rest (λ more p. record { within = tt; shorter = omega (arith, p, c, h) }))))

tested_shown : (text : List ℕ) → OnValue (Tested 2 text) (tested_at text)
unfolding tested_at
tested_shown text =
    either_on (Tested 2 text) (begins_with 109 text) (bounded_at text) (cond (begins_with 111 text) (oriented_at text) (sized_at Exactly text)) (bounded_shown text)
    (either_on (Tested 2 text) (begins_with 111 text) (oriented_at text) (sized_at Exactly text) (oriented_shown text) (sized_shown Exactly text))

feature_shown : (text : List ℕ) → OnValue (Tested 0 text) (feature_at text)
unfolding feature_at
feature_shown text =
    then_on (Leaves 1 text) (Tested 0 text) (byte_at 40 text) (λ inside. tested_at (skip inside) >>= λ feature. byte_at 41 (skip feature.1) >>= λ rest. Ok (feature.0, rest)) (byte_leaves 40 text)
    (λ inside h. then_on (Tested 2 (skip inside)) (Tested 0 text) (tested_at (skip inside)) (λ feature. byte_at 41 (skip feature.1) >>= λ rest. Ok (feature.0, rest)) (tested_shown (skip inside))
    (λ feature f. then_on (Leaves 1 (skip feature.1)) (Tested 0 text) (byte_at 41 (skip feature.1)) (λ rest. Ok (feature.0, rest)) (byte_leaves 41 (skip feature.1))
    (λ rest g. let short = f.shorter in record { within = f.within; shorter = omega (arith, short, h, g, skip_leaves inside, skip_leaves feature.1) })))

-- Joined features.

pub joined_shown : (joint text : List ℕ) → OnValue (λ read. IsWithin read.0 × (2 + length joint + length (feature_text read.0) + length read.1 ≤ length text)) (joined_at joint text)
unfolding joined_at
joined_shown joint text =
    let Shows = λ (read : Feature × List ℕ). IsWithin read.0 × (2 + length joint + length (feature_text read.0) + length read.1 ≤ length text) in
    then_on (Leaves 1 text) Shows (gap_at text) (λ next. word_at joint next >>= λ rest. gap_at rest >>= λ inside. feature_at inside) (gap_leaves text)
    (λ next n. then_on (Leaves (length joint) next) Shows (word_at joint next) (λ rest. gap_at rest >>= λ inside. feature_at inside) (word_leaves joint next)
    (λ rest r. then_on (Leaves 1 rest) Shows (gap_at rest) (λ inside. feature_at inside) (gap_leaves rest)
    (λ inside i. weaker_on (Tested 0 inside) Shows (feature_at inside) (feature_shown inside) (λ read f. let short = f.shorter in (f.within, omega (arith, short, n, r, i))))))

record Joined (joint text : List ℕ) (read : List Feature × List ℕ) : Type 0 where
  within : AreWithin read.0
  shorter : length (joined_text joint read.0) + length read.1 ≤ length text

joined_long : (joint : List ℕ) (f : Feature) (fs : List Feature) → length (joined_text joint (f ∷ fs)) ≡ 2 + length joint + length (feature_text f) + length (joined_text joint fs)
unfolding joined_text
joined_long joint f fs = simp length-append (omega arith)

none_long : (joint : List ℕ) → length (joined_text joint []) ≡ 0
unfolding joined_text
none_long joint = refl

more_shown : (fuel : ℕ) (joint text : List ℕ) → OnValue (Joined joint text) (more_at fuel joint text)
unfolding more_at
more_shown zero joint text = record { within = tt; shorter = omega (arith, none_long joint) }
more_shown (suc fuel) joint text =
    either_on (Joined joint text) (query_ends text) (Ok ([], text)) (joined_at joint text >>= λ feature. more_at fuel joint feature.1 >>= λ others. Ok (feature.0 ∷ others.0, others.1))
    (record { within = tt; shorter = omega (arith, none_long joint) })
    (then_on (λ read. IsWithin read.0 × (2 + length joint + length (feature_text read.0) + length read.1 ≤ length text)) (Joined joint text) (joined_at joint text)
    (λ feature. more_at fuel joint feature.1 >>= λ others. Ok (feature.0 ∷ others.0, others.1)) (joined_shown joint text)
    (λ feature f. then_on (Joined joint feature.1) (Joined joint text) (more_at fuel joint feature.1) (λ others. Ok (feature.0 ∷ others.0, others.1)) (more_shown fuel joint feature.1)
    (λ others o. let short = o.shorter in record { within = (f.0, o.within); shorter = omega (arith, joined_long joint feature.0 others.0, short, f.1) })))

others_shown : (joint text : List ℕ) → OnValue (Joined joint text) (others_at joint text)
unfolding others_at
others_shown joint text = more_shown (suc (length text)) joint text

-- Queries.

pub record Asked (before : ℕ) (text : List ℕ) (read : MediaQuery × List ℕ) : Type 0 where
  pub within : IsQueryWithin read.0
  pub shorter : length (query_text read.0) + length read.1 ≤ before + length text

typed_long : (before : Prefix) (medium : MediaType) (fs : List Feature)
    → length (query_text (Typed before medium fs)) ≡ length (prefix_text before) + length (medium_text medium) + length (joined_text (codes "and") fs)
unfolding query_text
typed_long before medium fs = simp length-append (omega arith)

not_long : (f : Feature) → length (query_text (NotFeature f)) ≡ 4 + length (feature_text f)
unfolding query_text
not_long f = simp length-append (omega arith)

all_long : (first : Feature) (fs : List Feature) → length (query_text (AllFeatures first fs)) ≡ length (feature_text first) + length (joined_text (codes "and") fs)
unfolding query_text
all_long first fs = length-append (feature_text first) (joined_text (codes "and") fs)

any_long : (first second : Feature) (fs : List Feature) → length (query_text (AnyFeatures first second fs)) ≡ length (feature_text first) + (4 + length (feature_text second) + length (joined_text (codes "or") fs))
unfolding query_text
any_long first second fs =
    length-append (feature_text first) (joined_text (codes "or") (second ∷ fs)) ∙ ap (λ n. length (feature_text first) + n) (joined_long (codes "or") second fs)

medium_shown : (text : List ℕ) → OnValue (λ read. length (medium_text read.0) + length read.1 ≤ length text) (medium_at text)
unfolding medium_at
medium_shown text =
    let Shows = λ (read : MediaType × List ℕ). length (medium_text read.0) + length read.1 ≤ length text in
    either_on Shows (begins_with 97 text) (says (codes "all") AllMedia text) (cond (begins_with 115 text) (says (codes "screen") ScreenMedia text) (says (codes "print") PrintMedia text))
    (says_leaves Shows (codes "all") AllMedia text (λ rest h. h))
    (either_on Shows (begins_with 115 text) (says (codes "screen") ScreenMedia text) (says (codes "print") PrintMedia text)
    (says_leaves Shows (codes "screen") ScreenMedia text (λ rest h. h)) (says_leaves Shows (codes "print") PrintMedia text (λ rest h. h)))

typed_shown : (before : Prefix) (text : List ℕ) → OnValue (Asked (length (prefix_text before)) text) (typed_at before text)
unfolding typed_at
typed_shown before text =
    then_on (λ read. length (medium_text read.0) + length read.1 ≤ length text) (Asked (length (prefix_text before)) text) (medium_at text)
    (λ medium. others_at (codes "and") medium.1 >>= λ features. Ok (Typed before medium.0 features.0, features.1)) (medium_shown text)
    (λ medium m. then_on (Joined (codes "and") medium.1) (Asked (length (prefix_text before)) text) (others_at (codes "and") medium.1)
    (λ features. Ok (Typed before medium.0 features.0, features.1)) (others_shown (codes "and") medium.1)
    (λ features f. let short = f.shorter in record { within = f.within; shorter = omega (arith, typed_long before medium.0 features.0, short, m) }))

condition_shown : (text : List ℕ) → OnValue (Asked 0 text) (condition_at text)
unfolding condition_at features_from all_at any_at
condition_shown text =
    then_on (Tested 0 text) (Asked 0 text) (feature_at text) (λ first. features_from first.0 first.1) (feature_shown text)
    (λ first f. let short = f.shorter in either_on (Asked 0 text) (begins_with 111 (skip first.1)) (any_at first.0 first.1) (all_at first.0 first.1)
    (then_on (λ read. IsWithin read.0 × (4 + length (feature_text read.0) + length read.1 ≤ length first.1)) (Asked 0 text) (joined_at (codes "or") first.1)
    (λ second. others_at (codes "or") second.1 >>= λ others. Ok (AnyFeatures first.0 second.0 others.0, others.1)) (joined_shown (codes "or") first.1)
    (λ second s. then_on (Joined (codes "or") second.1) (Asked 0 text) (others_at (codes "or") second.1) (λ others. Ok (AnyFeatures first.0 second.0 others.0, others.1)) (others_shown (codes "or") second.1)
    (λ others o. let last = o.shorter in record { within = (f.within, s.0, o.within); shorter = omega (arith, any_long first.0 second.0 others.0, short, s.1, last) })))
    (then_on (Joined (codes "and") first.1) (Asked 0 text) (others_at (codes "and") first.1) (λ others. Ok (AllFeatures first.0 others.0, others.1)) (others_shown (codes "and") first.1)
    (λ others o. let last = o.shorter in record { within = (f.within, o.within); shorter = omega (arith, all_long first.0 others.0, short, last) })))

not_shown : (text : List ℕ) → OnValue (Asked 0 text) (not_at text)
unfolding not_at not_feature_at
not_shown text =
    then_on (Leaves 3 text) (Asked 0 text) (word_at (codes "not") text) (λ next. gap_at next >>= λ rest. cond (begins_with 40 rest) (not_feature_at rest) (typed_at NotPrefix rest)) (word_leaves (codes "not") text)
    (λ next n. then_on (Leaves 1 next) (Asked 0 text) (gap_at next) (λ rest. cond (begins_with 40 rest) (not_feature_at rest) (typed_at NotPrefix rest)) (gap_leaves next)
    (λ rest r. either_on (Asked 0 text) (begins_with 40 rest) (not_feature_at rest) (typed_at NotPrefix rest)
    (then_on (Tested 0 rest) (Asked 0 text) (feature_at rest) (λ feature. Ok (NotFeature feature.0, feature.1)) (feature_shown rest)
    (λ feature f. let short = f.shorter in record { within = f.within; shorter = omega (arith, not_long feature.0, short, n, r) }))
    (weaker_on (Asked 4 rest) (Asked 0 text) (typed_at NotPrefix rest) (typed_shown NotPrefix rest) (λ read t. let short = t.shorter in record { within = t.within; shorter = omega (arith, short, n, r) }))))

only_shown : (text : List ℕ) → OnValue (Asked 0 text) (only_at text)
unfolding only_at
only_shown text =
    then_on (Leaves 4 text) (Asked 0 text) (word_at (codes "only") text) (λ next. gap_at next >>= λ rest. typed_at OnlyPrefix rest) (word_leaves (codes "only") text)
    (λ next n. then_on (Leaves 1 next) (Asked 0 text) (gap_at next) (λ rest. typed_at OnlyPrefix rest) (gap_leaves next)
    (λ rest r. weaker_on (Asked 5 rest) (Asked 0 text) (typed_at OnlyPrefix rest) (typed_shown OnlyPrefix rest) (λ read t. let short = t.shorter in record { within = t.within; shorter = omega (arith, short, n, r) })))

pub query_shown : (text : List ℕ) → OnValue (Asked 0 text) (query_at text)
unfolding query_at
query_shown text =
    either_on (Asked 0 text) (begins_with 110 text) (not_at text) (cond (begins_with 111 text) (only_at text) (cond (begins_with 40 text) (condition_at text) (typed_at NoPrefix text))) (not_shown text)
    (either_on (Asked 0 text) (begins_with 111 text) (only_at text) (cond (begins_with 40 text) (condition_at text) (typed_at NoPrefix text)) (only_shown text)
    (either_on (Asked 0 text) (begins_with 40 text) (condition_at text) (typed_at NoPrefix text) (condition_shown text) (typed_shown NoPrefix text)))

-- Lists.

record AllAsked (text : List ℕ) (queries : List MediaQuery) : Type 0 where
  within : AreQueriesWithin queries
  shorter : length (commas_text queries) ≤ length text

commas_none : length (commas_text []) ≡ 0
unfolding commas_text
commas_none = refl

commas_more : (q : MediaQuery) (qs : List MediaQuery) → length (commas_text (q ∷ qs)) ≡ 1 + length (query_text q) + length (commas_text qs)
unfolding commas_text
commas_more q qs = simp length-append (omega arith)

more_queries_shown : (fuel : ℕ) (text : List ℕ) → OnValue (AllAsked text) (more_queries_at fuel text)
unfolding more_queries_at
more_queries_shown zero text = record { within = tt; shorter = omega (arith, commas_none) }
more_queries_shown (suc fuel) text =
    either_on (AllAsked text) (is_empty text) (Ok []) (byte_at 44 (skip text) >>= λ rest. query_at (skip rest) >>= λ query. more_queries_at fuel query.1 >>= λ others. Ok (query.0 ∷ others))
    (record { within = tt; shorter = omega (arith, commas_none) })
    (then_on (Leaves 1 (skip text)) (AllAsked text) (byte_at 44 (skip text)) (λ rest. query_at (skip rest) >>= λ query. more_queries_at fuel query.1 >>= λ others. Ok (query.0 ∷ others)) (byte_leaves 44 (skip text))
    (λ rest r. then_on (Asked 0 (skip rest)) (AllAsked text) (query_at (skip rest)) (λ query. more_queries_at fuel query.1 >>= λ others. Ok (query.0 ∷ others)) (query_shown (skip rest))
    (λ query q. then_on (AllAsked query.1) (AllAsked text) (more_queries_at fuel query.1) (λ others. Ok (query.0 ∷ others)) (more_queries_shown fuel query.1)
    (λ others o. let short = q.shorter in let last = o.shorter in
    record { within = (q.within, o.within); shorter = omega (arith, commas_more query.0 others, short, last, r, skip_leaves text, skip_leaves rest) }))))

-- what a whole text gives
record Whole (text : List ℕ) (queries : List MediaQuery) : Type 0 where
  again : query_list (list_text queries) ≡ Ok queries
  shorter : length (list_text queries) ≤ length text

list_long : (q : MediaQuery) (qs : List MediaQuery) → length (list_text (q ∷ qs)) ≡ length (query_text q) + length (commas_text qs)
list_long q qs = ap length (listed q qs) ∙ length-append (query_text q) (commas_text qs)

queries_shown : (text : List ℕ) → OnValue (Whole text) (queries_at text)
unfolding queries_at
queries_shown text =
    then_on (Asked 0 text) (Whole text) (query_at text) (λ first. more_queries_at (suc (length text)) first.1 >>= λ others. Ok (first.0 ∷ others)) (query_shown text)
    (λ first f. then_on (AllAsked first.1) (Whole text) (more_queries_at (suc (length text)) first.1) (λ others. Ok (first.0 ∷ others)) (more_queries_shown (suc (length text)) first.1)
    (λ others o. let short = f.shorter in let last = o.shorter in
    record { again = printed_again first.0 others (f.within, o.within); shorter = omega (arith, list_long first.0 others, short, last) }))

on_ok : (text : List ℕ) (read : Result (List MediaQuery) ℕ) (queries : List MediaQuery) → OnValue (Whole text) read → with_fault (λ left. length text + 1 - left) read ≡ Ok queries → Whole text queries
on_ok text (Ok found) queries h e = let same : found ≡ queries = cc in subst (Whole text) same h
on_ok text (Err left) queries h e = absurd cc

whole_shown : (text : List ℕ) (queries : List MediaQuery) → query_list text ≡ Ok queries → Whole text queries
unfolding query_list
whole_shown text queries e = on_ok text (queries_at text) queries (queries_shown text) e

pub list_again : (text : List ℕ) (queries : List MediaQuery) → query_list text ≡ Ok queries → query_list (list_text queries) ≡ Ok queries
list_again text queries e = (whole_shown text queries e).again

pub no_shorter : (text : List ℕ) (queries : List MediaQuery) → query_list text ≡ Ok queries → length (list_text queries) ≤ length text
no_shorter text queries e = (whole_shown text queries e).shorter
