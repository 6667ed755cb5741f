-- A printed list is read as this list.
use Rattle.std.proofs.Common.{◌≡◌, ℕ, zero, suc, ◌+◌, ◌-◌, ◌<◌, ◌≤◌, Bool, true, false, cond, List, [], ◌∷◌, ◌++◌, length, refl, ap, sym, ◌∙◌, arith, append_assoc, length-append}
use Rattle.std.specs.Prelude.{Result, Ok, codes}
use Rattle.std.proofs.lemmas.Grind.{common_steps}
use Rattle.word_model.specs.Numbers.{begins_with}
use Rattle.script_model.specs.Readers.{◌>>=◌, with_fault, is_empty}
use Rattle.script_model.specs.Queries.{Comparison, Exactly, AtLeast, AtMost, Feature, WidthFeature, HeightFeature, OrientationFeature, MediaType, AllMedia, ScreenMedia, PrintMedia, Prefix, NoPrefix, NotPrefix, OnlyPrefix, MediaQuery, Typed, NotFeature, AllFeatures, AnyFeatures}
use Rattle.script_model.specs.Media.{Read, byte_at, is_blank, skip, length_at, sized_at, tested_at, feature_at, query_ends, joined_at, more_at, others_at, medium_at, typed_at, all_at, any_at, features_from, query_at, more_queries_at, queries_at, query_list}
use Rattle.media_queries.specs.LengthText.{length_text}
use Rattle.media_queries.specs.QueryText.{comparison_text, orientation_text, feature_text, joined_text, medium_text, prefix_text, query_text, commas_text, list_text}
use Rattle.media_queries.proofs.DigitTexts.{FirstDigit}
use Rattle.media_queries.proofs.LengthAgain.{Reads, length_again}

-- Features whose lengths are within the largest one.

abbrev pub IsWithin : Feature → Type 0
IsWithin (WidthFeature compared units) = units ≤ 64000000
IsWithin (HeightFeature compared units) = units ≤ 64000000
IsWithin (OrientationFeature portrait) = Unit {0}

abbrev pub AreWithin : List Feature → Type 0
AreWithin [] = Unit {0}
AreWithin (f ∷ fs) = IsWithin f × AreWithin fs

no_blank : (b : ℕ) → 48 ≤ b → is_blank b ≡ false
no_blank b low = grind (arith, common_steps)

skip_digit : (b : ℕ) (bs : List ℕ) → 48 ≤ b → skip (b ∷ bs) ≡ b ∷ bs
unfolding skip
skip_digit b bs low = ap (λ t. cond t (skip bs) (b ∷ bs)) (no_blank b low)

no_skip : (text : List ℕ) → FirstDigit text → skip text ≡ text
no_skip text first = ap skip first.2 ∙ skip_digit first.0 first.1 first.3 ∙ sym first.2

width_sized : (compared : Comparison) (text rest : List ℕ) (units : ℕ) → skip text ≡ text → length_at text ≡ Ok (units, rest)
    → sized_at compared (codes "width:" ++ text) ≡ Ok (WidthFeature compared units, rest)
unfolding sized_at
width_sized compared text rest units s e =
    ap (λ (t : List ℕ). length_at t >>= λ units. Ok (WidthFeature compared units.0, units.1)) s
    ∙ ap (λ (r : Read ℕ). r >>= λ units. Ok (WidthFeature compared units.0, units.1)) e

height_sized : (compared : Comparison) (text rest : List ℕ) (units : ℕ) → skip text ≡ text → length_at text ≡ Ok (units, rest)
    → sized_at compared (codes "height:" ++ text) ≡ Ok (HeightFeature compared units, rest)
unfolding sized_at
height_sized compared text rest units s e =
    ap (λ (t : List ℕ). length_at t >>= λ units. Ok (HeightFeature compared units.0, units.1)) s
    ∙ ap (λ (r : Read ℕ). r >>= λ units. Ok (HeightFeature compared units.0, units.1)) e

width_tested : (compared : Comparison) (text : List ℕ) → tested_at (comparison_text compared ++ (codes "width:" ++ text)) ≡ sized_at compared (codes "width:" ++ text)
unfolding tested_at
width_tested Exactly text = refl
width_tested AtLeast text = refl
width_tested AtMost text = refl

height_tested : (compared : Comparison) (text : List ℕ) → tested_at (comparison_text compared ++ (codes "height:" ++ text)) ≡ sized_at compared (codes "height:" ++ text)
unfolding tested_at
height_tested Exactly text = refl
height_tested AtLeast text = refl
height_tested AtMost text = refl

width_first : (compared : Comparison) (text : List ℕ) → skip (comparison_text compared ++ (codes "width:" ++ text)) ≡ comparison_text compared ++ (codes "width:" ++ text)
unfolding skip
width_first Exactly text = refl
width_first AtLeast text = refl
width_first AtMost text = refl

height_first : (compared : Comparison) (text : List ℕ) → skip (comparison_text compared ++ (codes "height:" ++ text)) ≡ comparison_text compared ++ (codes "height:" ++ text)
unfolding skip
height_first Exactly text = refl
height_first AtLeast text = refl
height_first AtMost text = refl

in_parentheses : (inside tail : List ℕ) (feature : Feature) → skip inside ≡ inside → tested_at inside ≡ Ok (feature, codes ")" ++ tail)
    → feature_at (codes "(" ++ inside) ≡ Ok (feature, tail)
unfolding feature_at
in_parentheses inside tail feature s e =
    ap (λ (t : List ℕ). tested_at t >>= λ feature. byte_at 41 (skip feature.1) >>= λ rest. Ok (feature.0, rest)) s
    ∙ ap (λ (r : Read Feature). r >>= λ feature. byte_at 41 (skip feature.1) >>= λ rest. Ok (feature.0, rest)) e

oriented_again : (portrait : Bool) (tail : List ℕ) → feature_at (codes "(orientation:" ++ (orientation_text portrait ++ (codes ")" ++ tail))) ≡ Ok (OrientationFeature portrait, tail)
unfolding feature_at
oriented_again true tail = refl
oriented_again false tail = refl

-- what stands behind the parenthesis that a feature begins with
inside_of : Feature → List ℕ → List ℕ
inside_of (WidthFeature compared units) tail = comparison_text compared ++ (codes "width:" ++ (length_text units ++ (codes ")" ++ tail)))
inside_of (HeightFeature compared units) tail = comparison_text compared ++ (codes "height:" ++ (length_text units ++ (codes ")" ++ tail)))
inside_of (OrientationFeature portrait) tail = codes "orientation:" ++ (orientation_text portrait ++ (codes ")" ++ tail))

sized_inside : (compared : Comparison) (units : ℕ) (name tail : List ℕ)
    → (comparison_text compared ++ (name ++ (length_text units ++ codes ")"))) ++ tail ≡ comparison_text compared ++ (name ++ (length_text units ++ (codes ")" ++ tail)))
sized_inside compared units name tail = simp append_assoc

begins_inside : (feature : Feature) (tail : List ℕ) → feature_text feature ++ tail ≡ codes "(" ++ inside_of feature tail
unfolding feature_text inside_of
begins_inside (WidthFeature compared units) tail = ap (λ t. 40 ∷ t) (sized_inside compared units (codes "width:") tail)
begins_inside (HeightFeature compared units) tail = ap (λ t. 40 ∷ t) (sized_inside compared units (codes "height:") tail)
begins_inside (OrientationFeature true) tail = refl
begins_inside (OrientationFeature false) tail = refl

feature_inside : (feature : Feature) (tail : List ℕ) → IsWithin feature → feature_at (codes "(" ++ inside_of feature tail) ≡ Ok (feature, tail)
unfolding inside_of
feature_inside (WidthFeature compared units) tail within =
    let again : Reads units (length_text units) (codes ")" ++ tail) = length_again units (codes ")" ++ tail) within in
    let text : List ℕ = length_text units ++ (codes ")" ++ tail) in
    in_parentheses (comparison_text compared ++ (codes "width:" ++ text)) tail (WidthFeature compared units) (width_first compared text)
    (width_tested compared text ∙ width_sized compared text (codes ")" ++ tail) units (no_skip text again.first) again.read)
feature_inside (HeightFeature compared units) tail within =
    let again : Reads units (length_text units) (codes ")" ++ tail) = length_again units (codes ")" ++ tail) within in
    let text : List ℕ = length_text units ++ (codes ")" ++ tail) in
    in_parentheses (comparison_text compared ++ (codes "height:" ++ text)) tail (HeightFeature compared units) (height_first compared text)
    (height_tested compared text ∙ height_sized compared text (codes ")" ++ tail) units (no_skip text again.first) again.read)
feature_inside (OrientationFeature portrait) tail within = oriented_again portrait tail

-- Features joined by a word.

-- what is read behind a word that joins features
record Joins (joint : List ℕ) : Type 0 where
  goes_on : (text : List ℕ) → query_ends (codes " " ++ (joint ++ (codes " " ++ text))) ≡ false
  joined : (text : List ℕ) → joined_at joint (codes " " ++ (joint ++ (codes " (" ++ text))) ≡ feature_at (codes "(" ++ text)

and_joins : Joins (codes "and")
unfolding query_ends joined_at
and_joins = record { goes_on = λ text. refl; joined = λ text. refl }

or_joins : Joins (codes "or")
unfolding query_ends joined_at
or_joins = record { goes_on = λ text. refl; joined = λ text. refl }

joined_is : (joint tail : List ℕ) (f : Feature) (fs : List Feature)
    → joined_text joint (f ∷ fs) ++ tail ≡ codes " " ++ (joint ++ (codes " " ++ (feature_text f ++ (joined_text joint fs ++ tail))))
unfolding joined_text
joined_is joint tail f fs = simp append_assoc

one_joined : (joint tail : List ℕ) (f : Feature) → Joins joint → IsWithin f
    → joined_at joint (codes " " ++ (joint ++ (codes " " ++ (feature_text f ++ tail)))) ≡ Ok (f, tail)
one_joined joint tail f joins within =
    ap (λ t. joined_at joint (codes " " ++ (joint ++ (codes " " ++ t)))) (begins_inside f tail)
    ∙ joins.joined (inside_of f tail) ∙ feature_inside f tail within

more_ends_here : (fuel : ℕ) (joint tail : List ℕ) → query_ends tail ≡ true → more_at (suc fuel) joint tail ≡ Ok ([], tail)
unfolding more_at
more_ends_here fuel joint tail ends =
    ap (λ t. cond t (Ok ([], tail)) (joined_at joint tail >>= λ feature. more_at fuel joint feature.1 >>= λ others. Ok (feature.0 ∷ others.0, others.1))) ends

more_goes_on : (fuel : ℕ) (joint text rest tail : List ℕ) (f : Feature) (fs : List Feature) → query_ends text ≡ false → joined_at joint text ≡ Ok (f, rest)
    → more_at fuel joint rest ≡ Ok (fs, tail) → more_at (suc fuel) joint text ≡ Ok (f ∷ fs, tail)
unfolding more_at
more_goes_on fuel joint text rest tail f fs on e m =
    ap (λ t. cond t (Ok ([], text)) (joined_at joint text >>= λ feature. more_at fuel joint feature.1 >>= λ others. Ok (feature.0 ∷ others.0, others.1))) on
    ∙ ap (λ (r : Read Feature). r >>= λ feature. more_at fuel joint feature.1 >>= λ others. Ok (feature.0 ∷ others.0, others.1)) e
    ∙ ap (λ (r : Read (List Feature)). r >>= λ others. Ok (f ∷ others.0, others.1)) m

joined_again : (fuel : ℕ) (joint tail : List ℕ) (fs : List Feature) → Joins joint → query_ends tail ≡ true → AreWithin fs → length fs < fuel
    → more_at fuel joint (joined_text joint fs ++ tail) ≡ Ok (fs, tail)
unfolding joined_text
joined_again zero joint tail fs joins ends within room = absurd (omega arith)
joined_again (suc fuel) joint tail [] joins ends within room = more_ends_here fuel joint tail ends
joined_again (suc fuel) joint tail (f ∷ fs) joins ends within room =
    let behind : List ℕ = joined_text joint fs ++ tail in
    ap (more_at (suc fuel) joint) (joined_is joint tail f fs)
    ∙ more_goes_on fuel joint (codes " " ++ (joint ++ (codes " " ++ (feature_text f ++ behind)))) behind tail f fs
    (joins.goes_on (feature_text f ++ behind)) (one_joined joint behind f joins within.0)
    (joined_again fuel joint tail fs joins ends within.1 (omega arith))

as_long : (joint tail : List ℕ) (fs : List Feature) → length fs ≤ length (joined_text joint fs ++ tail)
unfolding joined_text
as_long joint tail [] = omega arith
as_long joint tail (f ∷ fs) =
    let h : length fs ≤ length (joined_text joint fs ++ tail) = as_long joint tail fs in
    simp length-append (omega (arith, simp length-append at h))

others_again : (joint tail : List ℕ) (fs : List Feature) → Joins joint → query_ends tail ≡ true → AreWithin fs → others_at joint (joined_text joint fs ++ tail) ≡ Ok (fs, tail)
unfolding others_at
others_again joint tail fs joins ends within =
    joined_again (suc (length (joined_text joint fs ++ tail))) joint tail fs joins ends within (let h : length fs ≤ length (joined_text joint fs ++ tail) = as_long joint tail fs in omega arith)

-- Queries.

abbrev pub IsQueryWithin : MediaQuery → Type 0
IsQueryWithin (Typed before medium features) = AreWithin features
IsQueryWithin (NotFeature feature) = IsWithin feature
IsQueryWithin (AllFeatures first others) = IsWithin first × AreWithin others
IsQueryWithin (AnyFeatures first second others) = IsWithin first × IsWithin second × AreWithin others

medium_again : (medium : MediaType) (text : List ℕ) → medium_at (medium_text medium ++ text) ≡ Ok (medium, text)
unfolding medium_at
medium_again AllMedia text = refl
medium_again ScreenMedia text = refl
medium_again PrintMedia text = refl

typed_again : (before : Prefix) (medium : MediaType) (fs : List Feature) (tail : List ℕ) → query_ends tail ≡ true → AreWithin fs
    → typed_at before (medium_text medium ++ (joined_text (codes "and") fs ++ tail)) ≡ Ok (Typed before medium fs, tail)
unfolding typed_at
typed_again before medium fs tail ends within =
    ap (λ (r : Read MediaType). r >>= λ medium. others_at (codes "and") medium.1 >>= λ features. Ok (Typed before medium.0 features.0, features.1))
    (medium_again medium (joined_text (codes "and") fs ++ tail))
    ∙ ap (λ (r : Read (List Feature)). r >>= λ features. Ok (Typed before medium features.0, features.1)) (others_again (codes "and") tail fs and_joins ends within)

prefixed : (before : Prefix) (medium : MediaType) (text : List ℕ) → query_at (prefix_text before ++ (medium_text medium ++ text)) ≡ typed_at before (medium_text medium ++ text)
unfolding query_at
prefixed NoPrefix AllMedia text = refl
prefixed NoPrefix ScreenMedia text = refl
prefixed NoPrefix PrintMedia text = refl
prefixed NotPrefix AllMedia text = refl
prefixed NotPrefix ScreenMedia text = refl
prefixed NotPrefix PrintMedia text = refl
prefixed OnlyPrefix AllMedia text = refl
prefixed OnlyPrefix ScreenMedia text = refl
prefixed OnlyPrefix PrintMedia text = refl

not_feature : (text : List ℕ) → query_at (codes "not (" ++ text) ≡ (feature_at (codes "(" ++ text) >>= λ feature. Ok (NotFeature feature.0, feature.1))
unfolding query_at
not_feature text = refl

condition : (text : List ℕ) → query_at (codes "(" ++ text) ≡ (feature_at (codes "(" ++ text) >>= λ first. features_from first.0 first.1)
unfolding query_at
condition text = refl

condition_from : (first : Feature) (rest : List ℕ) → IsWithin first → query_at (feature_text first ++ rest) ≡ features_from first rest
condition_from first rest within =
    ap query_at (begins_inside first rest) ∙ condition (inside_of first rest)
    ∙ ap (λ (r : Read Feature). r >>= λ first. features_from first.0 first.1) (feature_inside first rest within)

all_from : (first : Feature) (text : List ℕ) → begins_with 111 (skip text) ≡ false → features_from first text ≡ all_at first text
unfolding features_from
all_from first text e = ap (λ t. cond t (any_at first text) (all_at first text)) e

any_from : (first : Feature) (text : List ℕ) → begins_with 111 (skip text) ≡ true → features_from first text ≡ any_at first text
unfolding features_from
any_from first text e = ap (λ t. cond t (any_at first text) (all_at first text)) e

comma_first : (text : List ℕ) → begins_with 44 text ≡ true → begins_with 111 text ≡ false
unfolding begins_with
comma_first [] e = refl
comma_first (b ∷ bs) e = grind (arith, common_steps)

no_or_at_end : (tail : List ℕ) → query_ends tail ≡ true → begins_with 111 (skip tail) ≡ false
unfolding query_ends is_empty
no_or_at_end [] ends = refl
no_or_at_end (b ∷ bs) ends = comma_first (skip (b ∷ bs)) ends

no_or_behind : (fs : List Feature) (tail : List ℕ) → query_ends tail ≡ true → begins_with 111 (skip (joined_text (codes "and") fs ++ tail)) ≡ false
unfolding joined_text skip begins_with
no_or_behind [] tail ends = no_or_at_end tail ends
no_or_behind (f ∷ fs) tail ends = refl

or_behind : (text : List ℕ) → begins_with 111 (skip (codes " " ++ (codes "or" ++ text))) ≡ true
unfolding skip begins_with
or_behind text = refl

all_again : (first : Feature) (fs : List Feature) (tail : List ℕ) → query_ends tail ≡ true → AreWithin fs
    → all_at first (joined_text (codes "and") fs ++ tail) ≡ Ok (AllFeatures first fs, tail)
unfolding all_at
all_again first fs tail ends within =
    ap (λ (r : Read (List Feature)). r >>= λ others. Ok (AllFeatures first others.0, others.1)) (others_again (codes "and") tail fs and_joins ends within)

any_again : (first second : Feature) (fs : List Feature) (tail : List ℕ) → query_ends tail ≡ true → IsWithin second → AreWithin fs
    → any_at first (codes " " ++ (codes "or" ++ (codes " " ++ (feature_text second ++ (joined_text (codes "or") fs ++ tail))))) ≡ Ok (AnyFeatures first second fs, tail)
unfolding any_at
any_again first second fs tail ends within all =
    ap (λ (r : Read Feature). r >>= λ second. others_at (codes "or") second.1 >>= λ others. Ok (AnyFeatures first second.0 others.0, others.1))
    (one_joined (codes "or") (joined_text (codes "or") fs ++ tail) second or_joins within)
    ∙ ap (λ (r : Read (List Feature)). r >>= λ others. Ok (AnyFeatures first second others.0, others.1)) (others_again (codes "or") tail fs or_joins ends all)

pub query_again : (query : MediaQuery) (tail : List ℕ) → query_ends tail ≡ true → IsQueryWithin query → query_at (query_text query ++ tail) ≡ Ok (query, tail)
unfolding query_text
query_again (Typed before medium fs) tail ends within =
    let parts : (prefix_text before ++ (medium_text medium ++ joined_text (codes "and") fs)) ++ tail ≡ prefix_text before ++ (medium_text medium ++ (joined_text (codes "and") fs ++ tail)) = simp append_assoc in
    ap query_at parts ∙ prefixed before medium (joined_text (codes "and") fs ++ tail) ∙ typed_again before medium fs tail ends within
query_again (NotFeature feature) tail ends within =
    ap (λ t. query_at (codes "not " ++ t)) (begins_inside feature tail) ∙ not_feature (inside_of feature tail)
    ∙ ap (λ (r : Read Feature). r >>= λ feature. Ok (NotFeature feature.0, feature.1)) (feature_inside feature tail within)
query_again (AllFeatures first fs) tail ends within =
    ap query_at (append_assoc (feature_text first) (joined_text (codes "and") fs) tail)
    ∙ condition_from first (joined_text (codes "and") fs ++ tail) within.0
    ∙ all_from first (joined_text (codes "and") fs ++ tail) (no_or_behind fs tail ends) ∙ all_again first fs tail ends within.1
query_again (AnyFeatures first second fs) tail ends within =
    let text : List ℕ = codes " " ++ (codes "or" ++ (codes " " ++ (feature_text second ++ (joined_text (codes "or") fs ++ tail)))) in
    ap query_at (append_assoc (feature_text first) (joined_text (codes "or") (second ∷ fs)) tail)
    ∙ ap (λ t. query_at (feature_text first ++ t)) (joined_is (codes "or") tail second fs)
    ∙ condition_from first text within.0 ∙ any_from first text (or_behind (codes " " ++ (feature_text second ++ (joined_text (codes "or") fs ++ tail))))
    ∙ any_again first second fs tail ends within.1 within.2

-- Lists.

abbrev pub AreQueriesWithin : List MediaQuery → Type 0
AreQueriesWithin [] = Unit {0}
AreQueriesWithin (q ∷ qs) = IsQueryWithin q × AreQueriesWithin qs

pub listed : (q : MediaQuery) (qs : List MediaQuery) → list_text (q ∷ qs) ≡ query_text q ++ commas_text qs
unfolding list_text
listed q qs = refl

commas_end : (qs : List MediaQuery) → query_ends (commas_text qs) ≡ true
unfolding commas_text query_ends
commas_end [] = refl
commas_end (q ∷ qs) = refl

feature_first : (feature : Feature) (text : List ℕ) → skip (feature_text feature ++ text) ≡ feature_text feature ++ text
unfolding skip feature_text
feature_first (WidthFeature compared units) text = refl
feature_first (HeightFeature compared units) text = refl
feature_first (OrientationFeature portrait) text = refl

typed_first : (before : Prefix) (medium : MediaType) (text : List ℕ) → skip (prefix_text before ++ (medium_text medium ++ text)) ≡ prefix_text before ++ (medium_text medium ++ text)
unfolding skip
typed_first NoPrefix AllMedia text = refl
typed_first NoPrefix ScreenMedia text = refl
typed_first NoPrefix PrintMedia text = refl
typed_first NotPrefix medium text = refl
typed_first OnlyPrefix medium text = refl

not_first : (text : List ℕ) → skip (codes "not " ++ text) ≡ codes "not " ++ text
unfolding skip
not_first text = refl

one_first : (first : Feature) (others text : List ℕ) → skip ((feature_text first ++ others) ++ text) ≡ (feature_text first ++ others) ++ text
one_first first others text =
    ap skip (append_assoc (feature_text first) others text) ∙ feature_first first (others ++ text) ∙ sym (append_assoc (feature_text first) others text)

query_first : (query : MediaQuery) (text : List ℕ) → skip (query_text query ++ text) ≡ query_text query ++ text
unfolding query_text
query_first (Typed before medium fs) text =
    let parts : (prefix_text before ++ (medium_text medium ++ joined_text (codes "and") fs)) ++ text ≡ prefix_text before ++ (medium_text medium ++ (joined_text (codes "and") fs ++ text)) = simp append_assoc in
    ap skip parts ∙ typed_first before medium (joined_text (codes "and") fs ++ text) ∙ sym parts
query_first (NotFeature feature) text = not_first (feature_text feature ++ text)
query_first (AllFeatures first fs) text = one_first first (joined_text (codes "and") fs) text
query_first (AnyFeatures first second fs) text = one_first first (joined_text (codes "or") (second ∷ fs)) text

comma_read : (fuel : ℕ) (text rest : List ℕ) (q : MediaQuery) (qs : List MediaQuery) → skip text ≡ text → query_at text ≡ Ok (q, rest)
    → more_queries_at fuel rest ≡ Ok qs → more_queries_at (suc fuel) (codes "," ++ text) ≡ Ok (q ∷ qs)
unfolding more_queries_at
comma_read fuel text rest q qs s e m =
    ap (λ (t : List ℕ). query_at t >>= λ query. more_queries_at fuel query.1 >>= λ others. Ok (query.0 ∷ others)) s
    ∙ ap (λ (r : Read MediaQuery). r >>= λ query. more_queries_at fuel query.1 >>= λ others. Ok (query.0 ∷ others)) e
    ∙ ap (λ (r : Result (List MediaQuery) ℕ). r >>= λ others. Ok (q ∷ others)) m

nothing_more : (fuel : ℕ) → more_queries_at (suc fuel) [] ≡ Ok []
unfolding more_queries_at
nothing_more fuel = refl

commas_again : (fuel : ℕ) (qs : List MediaQuery) → AreQueriesWithin qs → length qs < fuel → more_queries_at fuel (commas_text qs) ≡ Ok qs
unfolding commas_text
commas_again zero qs within room = absurd (omega arith)
commas_again (suc fuel) [] within room = nothing_more fuel
commas_again (suc fuel) (q ∷ qs) within room =
    comma_read fuel (query_text q ++ commas_text qs) (commas_text qs) q qs (query_first q (commas_text qs)) (query_again q (commas_text qs) (commas_end qs) within.0)
    (commas_again fuel qs within.1 (omega arith))

commas_long : (qs : List MediaQuery) → length qs ≤ length (commas_text qs)
unfolding commas_text
commas_long [] = omega arith
commas_long (q ∷ qs) = let h : length qs ≤ length (commas_text qs) = commas_long qs in simp length-append (omega arith)

queries_again : (text rest : List ℕ) (q : MediaQuery) (qs : List MediaQuery) → query_at text ≡ Ok (q, rest) → more_queries_at (suc (length text)) rest ≡ Ok qs → queries_at text ≡ Ok (q ∷ qs)
unfolding queries_at
queries_again text rest q qs e m =
    ap (λ (r : Read MediaQuery). r >>= λ query. more_queries_at (suc (length text)) query.1 >>= λ others. Ok (query.0 ∷ others)) e
    ∙ ap (λ (r : Result (List MediaQuery) ℕ). r >>= λ others. Ok (q ∷ others)) m

pub printed_again : (q : MediaQuery) (qs : List MediaQuery) → AreQueriesWithin (q ∷ qs) → query_list (list_text (q ∷ qs)) ≡ Ok (q ∷ qs)
unfolding query_list
printed_again q qs within =
    let text : List ℕ = query_text q ++ commas_text qs in
    let long : length qs < suc (length text) = let h : length qs ≤ length (commas_text qs) = commas_long qs in simp length-append (omega arith) in
    ap (λ t. with_fault (λ left. length t + 1 - left) (queries_at t)) (listed q qs)
    ∙ ap (with_fault (λ left. length text + 1 - left)) (queries_again text (commas_text qs) q qs (query_again q (commas_text qs) (commas_end qs) within.0) (commas_again (suc (length text)) qs within.1 long))
