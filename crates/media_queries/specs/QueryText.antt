-- How media query lists are printed: with one space wherever a space is required, with no other space, and with the shortest text for each
-- length. A list keeps what comes before a media type, so it contains all that is printed. This form is this project's own choice.
use Rattle.std.specs.Prelude.{ℕ, Bool, true, false, List, [], ◌∷◌, ◌++◌, codes}
use Rattle.script_model.specs.Queries.{Comparison, Exactly, AtLeast, AtMost, Feature, WidthFeature, HeightFeature, OrientationFeature, MediaType, AllMedia, ScreenMedia, PrintMedia, Prefix, NoPrefix, NotPrefix, OnlyPrefix, MediaQuery, Typed, NotFeature, AllFeatures, AnyFeatures}
use Rattle.media_queries.specs.LengthText.{length_text}

abbrev pub comparison_text : Comparison → List ℕ
comparison_text Exactly = []
comparison_text AtLeast = codes "min-"
comparison_text AtMost = codes "max-"

abbrev pub orientation_text : Bool → List ℕ
orientation_text true = codes "portrait"
orientation_text false = codes "landscape"

unfoldable pub feature_text : Feature → List ℕ
unfolding length_text
feature_text (WidthFeature compared units) =
    codes "(" ++ (comparison_text compared ++ (codes "width:" ++ (length_text units ++ codes ")")))
feature_text (HeightFeature compared units) =
    codes "(" ++ (comparison_text compared ++ (codes "height:" ++ (length_text units ++ codes ")")))
feature_text (OrientationFeature portrait) = codes "(orientation:" ++ (orientation_text portrait ++ codes ")")

-- features, each after this word with a space on both sides
unfoldable pub joined_text : List ℕ → List Feature → List ℕ
unfolding feature_text
joined_text joint [] = []
joined_text joint (f ∷ fs) = codes " " ++ (joint ++ (codes " " ++ (feature_text f ++ joined_text joint fs)))

abbrev pub medium_text : MediaType → List ℕ
medium_text AllMedia = codes "all"
medium_text ScreenMedia = codes "screen"
medium_text PrintMedia = codes "print"

abbrev pub prefix_text : Prefix → List ℕ
prefix_text NoPrefix = []
prefix_text NotPrefix = codes "not "
prefix_text OnlyPrefix = codes "only "

unfoldable pub query_text : MediaQuery → List ℕ
unfolding feature_text joined_text
query_text (Typed before medium features) = prefix_text before ++ (medium_text medium ++ joined_text (codes "and") features)
query_text (NotFeature feature) = codes "not " ++ feature_text feature
query_text (AllFeatures first others) = feature_text first ++ joined_text (codes "and") others
query_text (AnyFeatures first second others) = feature_text first ++ joined_text (codes "or") (second ∷ others)

-- a comma before each query
unfoldable pub commas_text : List MediaQuery → List ℕ
unfolding query_text
commas_text [] = []
commas_text (q ∷ qs) = codes "," ++ (query_text q ++ commas_text qs)

-- the queries, separated by commas
unfoldable pub list_text : List MediaQuery → List ℕ
unfolding query_text commas_text
list_text [] = []
list_text (q ∷ qs) = query_text q ++ commas_text qs
