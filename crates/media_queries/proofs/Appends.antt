-- Texts appended one after the other.
use Rattle.std.proofs.Common.{◌≡◌, ℕ, suc, ◌+◌, ◌-◌, ◌<◌, ◌/◌, List, ◌∷◌, ◌++◌, ◌≤◌, length, take, drop, get_or, map, refl, ap, sym, ◌∙◌, append_assoc, append-nil, [], arith}
use Rattle.std.proofs.Math.Seq.{take-append_seam}
use Rattle.std.proofs.lemmas.List.{length-take, take-append-drop, take-append-le, drop_more, drop_all, take_all}
use Rattle.std.specs.Prelude.{codes}
use Rattle.word_model.specs.Numbers.{decimal}
use Rattle.media_queries.specs.LengthText.{last_digit, tenths_text, hundredths_text}
use Rattle.script_model.specs.Queries.{Feature, MediaType, Prefix, MediaQuery, Typed, NotFeature, AllFeatures, AnyFeatures}
use Rattle.media_queries.specs.QueryText.{feature_text, joined_text, medium_text, prefix_text, query_text, commas_text, list_text}
use Rattle.media_queries.specs.Seen.{Keeps}

pub keeps_more : (old more new : List ℕ) → new ≡ old ++ more → Keeps old new
keeps_more old more new e = ap (λ l. take (length old) l) e ∙ take-append_seam old more

pub keeps_same : (old new : List ℕ) → new ≡ old → Keeps old new
keeps_same old new e = keeps_more old [] new (e ∙ sym (append-nil old))

pub two_parts : (old first second middle new : List ℕ) → middle ≡ old ++ first → new ≡ middle ++ second → new ≡ old ++ (first ++ second)
two_parts old first second middle new e f = f ∙ ap (λ l. l ++ second) e ∙ append_assoc old first second

pub three_parts : (old first second third one two new : List ℕ) → one ≡ old ++ first → two ≡ one ++ second → new ≡ two ++ third → new ≡ old ++ (first ++ (second ++ third))
three_parts old first second third one two new e f g =
    two_parts old first (second ++ third) one new e (two_parts one second third two new f g)

pub keeps_on : (old middle new : List ℕ) → Keeps old middle → Keeps middle new → Keeps old new
keeps_on old middle new e f =
    let short : length old ≤ length middle = omega (arith, length-take (length old) middle, ap length e) in
    let within : length old ≤ length (take (length middle) new) = omega (arith, short, ap length f) in
    ap (λ l. take (length old) l) (sym (take-append-drop (length middle) new))
    ∙ take-append-le (length old) (take (length middle) new) (drop (length middle) new) within
    ∙ ap (λ l. take (length old) l) f ∙ e

pub tenths_pushed : (tenths : ℕ) (old middle new : List ℕ) → middle ≡ old ++ decimal (tenths / 10) → new ≡ middle ++ (46 ∷ last_digit tenths ∷ codes "px")
    → new ≡ old ++ tenths_text tenths
unfolding tenths_text
tenths_pushed tenths old middle new e f = two_parts old (decimal (tenths / 10)) (46 ∷ last_digit tenths ∷ codes "px") middle new e f

pub hundredths_pushed : (number : ℕ) (old middle new : List ℕ) → middle ≡ old ++ decimal (number / 100)
    → new ≡ middle ++ (46 ∷ last_digit (number / 10) ∷ last_digit number ∷ codes "px") → new ≡ old ++ hundredths_text number
unfolding hundredths_text
hundredths_pushed number old middle new e f =
    two_parts old (decimal (number / 100)) (46 ∷ last_digit (number / 10) ∷ last_digit number ∷ codes "px") middle new e f

pub typed_pushed : (before : Prefix) (medium : MediaType) (features : List Feature) (old one two new : List ℕ) → one ≡ old ++ prefix_text before
    → two ≡ one ++ medium_text medium → new ≡ two ++ joined_text (codes "and") features → new ≡ old ++ query_text (Typed before medium features)
unfolding query_text
typed_pushed before medium features old one two new e f g =
    three_parts old (prefix_text before) (medium_text medium) (joined_text (codes "and") features) one two new e f g

pub not_pushed : (feature : Feature) (old one new : List ℕ) → one ≡ old ++ codes "not " → new ≡ one ++ feature_text feature
    → new ≡ old ++ query_text (NotFeature feature)
unfolding query_text
not_pushed feature old one new e f = two_parts old (codes "not ") (feature_text feature) one new e f

pub every_pushed : (first : Feature) (others : List Feature) (old one new : List ℕ) → one ≡ old ++ feature_text first
    → new ≡ one ++ joined_text (codes "and") others → new ≡ old ++ query_text (AllFeatures first others)
unfolding query_text
every_pushed first others old one new e f = two_parts old (feature_text first) (joined_text (codes "and") others) one new e f

-- a feature behind a word and its gaps
joined_is : (joint behind : List ℕ) (feature : Feature) (others : List Feature)
    → (codes " " ++ (joint ++ codes " ")) ++ (feature_text feature ++ joined_text joint others) ≡ joined_text joint (feature ∷ others)
unfolding joined_text
joined_is joint behind feature others = simp append_assoc

pub either_pushed : (first second : Feature) (others : List Feature) (old one two three new : List ℕ) → one ≡ old ++ feature_text first
    → two ≡ one ++ (codes " " ++ (codes "or" ++ codes " ")) → three ≡ two ++ feature_text second → new ≡ three ++ joined_text (codes "or") others
    → new ≡ old ++ query_text (AnyFeatures first second others)
unfolding query_text
either_pushed first second others old one two three new e f g h =
    two_parts old (feature_text first) (joined_text (codes "or") (second ∷ others)) one new e
    (three_parts one (codes " " ++ (codes "or" ++ codes " ")) (feature_text second) (joined_text (codes "or") others) two three new f g h
    ∙ ap (λ l. one ++ l) (joined_is (codes "or") [] second others))

-- The loops over joined features and over queries, a step at a time.

pub joined_on : {A : Type 0} → (seen : A → Feature) (joint : List ℕ) (xs : List A) (i : ℕ) (d : A) (out one new whole : List ℕ) → i < length xs
    → out ++ joined_text joint (map seen (drop i xs)) ≡ whole → one ≡ out ++ (codes " " ++ (joint ++ codes " "))
    → new ≡ one ++ feature_text (seen (get_or xs i d)) → new ++ joined_text joint (map seen (drop (i + 1) xs)) ≡ whole
joined_on seen joint xs i d out one new whole within so e f =
    let behind : List ℕ = joined_text joint (map seen (drop (i + 1) xs)) in
    three_parts out (codes " " ++ (joint ++ codes " ")) (feature_text (seen (get_or xs i d))) behind one new (new ++ behind) e f refl
    ∙ ap (λ l. out ++ l) (joined_is joint [] (seen (get_or xs i d)) (map seen (drop (i + 1) xs)))
    ∙ ap (λ ys. out ++ joined_text joint (map seen ys)) (sym (drop_more xs i d within)) ∙ so

none_joined : (joint : List ℕ) → joined_text joint [] ≡ []
unfolding joined_text
none_joined joint = refl

pub joined_end : {A : Type 0} → (seen : A → Feature) (joint : List ℕ) (xs : List A) (i : ℕ) (out whole : List ℕ) → length xs ≤ i
    → out ++ joined_text joint (map seen (drop i xs)) ≡ whole → out ≡ whole
joined_end seen joint xs i out whole all so =
    sym (append-nil out) ∙ ap (λ l. out ++ l) (sym (none_joined joint)) ∙ ap (λ ys. out ++ joined_text joint (map seen ys)) (sym (drop_all i xs all)) ∙ so

commas_are : (query : MediaQuery) (queries : List MediaQuery) → commas_text (query ∷ queries) ≡ codes "," ++ (query_text query ++ commas_text queries)
unfolding commas_text
commas_are query queries = refl

no_commas : commas_text [] ≡ []
unfolding commas_text
no_commas = refl

pub list_pushed : {A : Type 0} → (seen : A → MediaQuery) (xs : List A) (first : A) (out one new : List ℕ) → 1 ≤ length xs → first ≡ get_or xs 0 first
    → one ≡ out ++ query_text (seen first) → new ≡ one ++ commas_text (map seen (take (length xs - 1) (drop 1 xs))) → new ≡ out ++ list_text (map seen xs)
unfolding list_text
list_pushed seen [] first out one new some is e f = absurd (omega arith)
list_pushed seen (x ∷ xs) first out one new some is e f =
    two_parts out (query_text (seen x)) (commas_text (map seen xs)) one new (e ∙ ap (λ y. out ++ query_text (seen y)) is)
    (f ∙ ap (λ ys. one ++ commas_text (map seen ys)) (take_all (suc (length xs) - 1) xs (omega arith)))

pub queries_on : {A : Type 0} → (seen : A → MediaQuery) (xs : List A) (i : ℕ) (d : A) (out one new whole : List ℕ) → i < length xs
    → out ++ commas_text (map seen (drop i xs)) ≡ whole → one ≡ out ++ (44 ∷ []) → new ≡ one ++ query_text (seen (get_or xs i d))
    → new ++ commas_text (map seen (drop (i + 1) xs)) ≡ whole
queries_on seen xs i d out one new whole within so e f =
    let behind : List ℕ = commas_text (map seen (drop (i + 1) xs)) in
    three_parts out (codes ",") (query_text (seen (get_or xs i d))) behind one new (new ++ behind) e f refl
    ∙ ap (λ l. out ++ l) (sym (commas_are (seen (get_or xs i d)) (map seen (drop (i + 1) xs))))
    ∙ ap (λ ys. out ++ commas_text (map seen ys)) (sym (drop_more xs i d within)) ∙ so

pub queries_end : {A : Type 0} → (seen : A → MediaQuery) (xs : List A) (i : ℕ) (out whole : List ℕ) → length xs ≤ i
    → out ++ commas_text (map seen (drop i xs)) ≡ whole → out ≡ whole
queries_end seen xs i out whole all so =
    sym (append-nil out) ∙ ap (λ l. out ++ l) (sym no_commas) ∙ ap (λ ys. out ++ commas_text (map seen ys)) (sym (drop_all i xs all)) ∙ so

pub no_queries : {A : Type 0} → (seen : A → MediaQuery) (xs : List A) (out : List ℕ) → length xs < 1 → out ≡ out ++ list_text (map seen xs)
unfolding list_text
no_queries seen [] out none = sym (append-nil out)
no_queries seen (x ∷ xs) out none = absurd (omega arith)
