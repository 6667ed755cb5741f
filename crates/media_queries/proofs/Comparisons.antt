-- A test of what features or queries stand for is a test of these themselves.
use Rattle.std.proofs.Common.{◌≡◌, ℕ, ◌&&◌, ◌||◌, List, [], ◌∷◌, map, refl, ap}
use Rattle.std.specs.List.{list_all, list_any}
use Rattle.script_model.specs.Media.{feature_matches, query_matches, matches}
use Rattle.media_queries.specs.Seen.{feature_of, query_of}
use Rattle.media_queries.specs.declared.features.Feature.{Feature}
use Rattle.media_queries.specs.declared.queries.MediaQuery.{MediaQuery}

pub all_seen : (width height : ℕ) (features : List Feature)
    → list_all (feature_matches width height) (map feature_of features) ≡ list_all (λ feature. feature_matches width height (feature_of feature)) features
all_seen width height [] = refl
all_seen width height (f ∷ fs) = ap (λ b. feature_matches width height (feature_of f) && b) (all_seen width height fs)

pub any_seen : (width height : ℕ) (features : List Feature)
    → list_any (feature_matches width height) (map feature_of features) ≡ list_any (λ feature. feature_matches width height (feature_of feature)) features
any_seen width height [] = refl
any_seen width height (f ∷ fs) = ap (λ b. feature_matches width height (feature_of f) || b) (any_seen width height fs)

any_query : (width height : ℕ) (queries : List MediaQuery)
    → list_any (query_matches width height) (map query_of queries) ≡ list_any (λ query. query_matches width height (query_of query)) queries
any_query width height [] = refl
any_query width height (q ∷ qs) = ap (λ b. query_matches width height (query_of q) || b) (any_query width height qs)

pub list_seen : (width height : ℕ) (queries : List MediaQuery)
    → matches (map query_of queries) width height ≡ list_any (λ query. query_matches width height (query_of query)) queries
unfolding matches
list_seen width height queries = any_query width height queries
