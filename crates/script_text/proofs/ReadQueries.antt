-- A list of media queries that is read is in the grammar's ranges, and is no longer printed than the text that was read.
use Rattle.std.proofs.Common.{◌≡◌, ℕ, zero, suc, ◌+◌, ◌-◌, ◌≤◌, List, [], ◌∷◌, length, refl, subst}
use Rattle.std.specs.Prelude.{Result, Ok, Err}
use Rattle.script_model.specs.Readers.{◌>>=◌, with_fault, is_empty}
use Rattle.script_model.specs.Queries.{Feature, WidthFeature, HeightFeature, OrientationFeature, MediaQuery, Typed, NotFeature, AllFeatures, AnyFeatures}
use Rattle.script_model.specs.Media.{byte_at, skip, query_at, more_queries_at, queries_at, query_list}
use Rattle.media_queries.specs.QueryText.{list_text}
use Rattle.media_queries.proofs.Readings.{OnValue, then_on, either_on}
use Rattle.media_queries.proofs.ReadsBack.{IsWithin, AreWithin, IsQueryWithin}
use Rattle.media_queries.proofs.Shortest.{Asked, query_shown, no_shorter}
use Rattle.script_text.specs.WellFormed.{IsFeature, AreFeatures, IsQuery, AreQueries, IsQueryList}

feature_meant : (feature : Feature) → IsWithin feature → IsFeature feature
feature_meant (WidthFeature compared units) h = h
feature_meant (HeightFeature compared units) h = h
feature_meant (OrientationFeature portrait) h = tt

features_meant : (features : List Feature) → AreWithin features → AreFeatures features
features_meant [] h = tt
features_meant (f ∷ fs) h = (feature_meant f h.0, features_meant fs h.1)

query_meant : (query : MediaQuery) → IsQueryWithin query → IsQuery query
query_meant (Typed before medium features) h = features_meant features h
query_meant (NotFeature feature) h = feature_meant feature h
query_meant (AllFeatures first others) h = (feature_meant first h.0, features_meant others h.1)
query_meant (AnyFeatures first second others) h = (feature_meant first h.0, feature_meant second h.1, features_meant others h.2)

-- any value, where nothing is asked of it
any_value : {A : Type 0} (read : Result A ℕ) → OnValue (λ value. Unit {0}) read
any_value (Ok value) = tt
any_value (Err left) = tt

more_meant : (fuel : ℕ) (text : List ℕ) → OnValue AreQueries (more_queries_at fuel text)
unfolding more_queries_at
more_meant zero text = tt
more_meant (suc fuel) text =
    either_on AreQueries (is_empty text) (Ok []) (byte_at 44 (skip text) >>= λ rest. query_at (skip rest) >>= λ query. more_queries_at fuel query.1 >>= λ others. Ok (query.0 ∷ others)) tt
    (then_on (λ rest. Unit {0}) AreQueries (byte_at 44 (skip text)) (λ rest. query_at (skip rest) >>= λ query. more_queries_at fuel query.1 >>= λ others. Ok (query.0 ∷ others)) (any_value (byte_at 44 (skip text)))
    (λ rest r. then_on (Asked 0 (skip rest)) AreQueries (query_at (skip rest)) (λ query. more_queries_at fuel query.1 >>= λ others. Ok (query.0 ∷ others)) (query_shown (skip rest))
    (λ query q. then_on AreQueries AreQueries (more_queries_at fuel query.1) (λ others. Ok (query.0 ∷ others)) (more_meant fuel query.1)
    (λ others o. (query_meant query.0 q.within, o)))))

queries_meant : (text : List ℕ) → OnValue IsQueryList (queries_at text)
unfolding queries_at
queries_meant text =
    then_on (Asked 0 text) IsQueryList (query_at text) (λ first. more_queries_at (suc (length text)) first.1 >>= λ others. Ok (first.0 ∷ others)) (query_shown text)
    (λ first f. then_on AreQueries IsQueryList (more_queries_at (suc (length text)) first.1) (λ others. Ok (first.0 ∷ others)) (more_meant (suc (length text)) first.1)
    (λ others o. (query_meant first.0 f.within, o)))

fault_on : {A : Type 0} (P : A → Type 0) (seen : ℕ → ℕ) (read : Result A ℕ) → OnValue P read → OnValue P (with_fault seen read)
fault_on P seen (Ok value) h = h
fault_on P seen (Err left) h = tt

list_meant : (text : List ℕ) → OnValue IsQueryList (query_list text)
unfolding query_list
list_meant text = fault_on IsQueryList (λ left. length text + 1 - left) (queries_at text) (queries_meant text)

if_read : {A : Type 0} (P : A → Type 0) (read : Result A ℕ) → ((value : A) → read ≡ Ok value → P value) → OnValue P read
if_read P (Ok value) h = h value refl
if_read P (Err left) h = tt

-- the same of what a reader with other faults gives
pub queries_fit : (text : List ℕ) (seen : ℕ → ℕ) → OnValue (λ queries. IsQueryList queries × (length (list_text queries) ≤ length text)) (with_fault seen (query_list text))
queries_fit text seen =
    let Fit : List MediaQuery → Type 0 = λ queries. IsQueryList queries × (length (list_text queries) ≤ length text) in
    fault_on Fit seen (query_list text) (if_read Fit (query_list text) (λ queries e. (subst (OnValue IsQueryList) e (list_meant text), no_shorter text queries e)))
