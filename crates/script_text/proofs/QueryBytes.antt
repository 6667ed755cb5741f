-- The printed text of a list of media queries begins and ends with a byte of a word, and no byte of it begins a comment.
use Rattle.std.proofs.Common.{◌≡◌, ◌∙◌, refl, sym, ap, ℕ, ◌≤◌, Bool, true, false, List, [], ◌∷◌, ◌++◌, subst, append_assoc, append-nil, ◌⊎◌, inl, inr}
use Rattle.std.specs.Prelude.{codes}
use Rattle.std.proofs.lemmas.Bool.{and_from}
use Rattle.std.proofs.lemmas.List.Folds.{list_all-append}
use Rattle.script_model.specs.Lines.{is_word_byte}
use Rattle.script_model.specs.Queries.{Comparison, Exactly, AtLeast, AtMost, Feature, WidthFeature, HeightFeature, OrientationFeature, MediaType, AllMedia, ScreenMedia, PrintMedia, Prefix, NoPrefix, NotPrefix, OnlyPrefix, MediaQuery, Typed, NotFeature, AllFeatures, AnyFeatures}
use Rattle.media_queries.specs.LengthText.{length_text}
use Rattle.media_queries.specs.QueryText.{comparison_text, orientation_text, feature_text, joined_text, medium_text, prefix_text, query_text, commas_text, list_text}
use Rattle.script_text.specs.WellFormed.{IsFeature, AreFeatures, IsQuery, AreQueries}
use Rattle.script_text.proofs.WordBytes.{AreQuiet, is_quiet}
use Rattle.script_text.proofs.NumbersAgain.{length_again}

quiet_append : (a b : List ℕ) → AreQuiet a → AreQuiet b → AreQuiet (a ++ b)
quiet_append a b h k = list_all-append is_quiet a b ∙ and_from _ _ h k

-- a text that begins with a byte of a word
pub record Starts (text : List ℕ) : Type 0 where
  pub first : ℕ
  pub others : List ℕ
  pub text_is : text ≡ first ∷ others
  pub word : is_word_byte first ≡ true

-- a text that ends with one
pub record Stops (text : List ℕ) : Type 0 where
  pub front : List ℕ
  pub last : ℕ
  pub text_is : text ≡ front ++ (last ∷ [])
  pub word : is_word_byte last ≡ true

pub record Clean (text : List ℕ) : Type 0 where
  pub starts : Starts text
  pub stops : Stops text
  pub quiet : AreQuiet text

starts_with : (a b : List ℕ) → Starts a → Starts (a ++ b)
starts_with a b h = record { first = h.first; others = h.others ++ b; text_is = ap (λ (t : List ℕ). t ++ b) h.text_is; word = h.word }

stops_with : (a b : List ℕ) → Stops b → Stops (a ++ b)
stops_with a b h = record { front = a ++ h.front; last = h.last; text_is = ap (λ (t : List ℕ). a ++ t) h.text_is ∙ sym (append_assoc a h.front (h.last ∷ [])); word = h.word }

-- what may follow a clean text: nothing, or a text that ends with a byte of a word
record Follows (text : List ℕ) : Type 0 where
  ends : (text ≡ []) ⊎ Stops text
  quiet : AreQuiet text

clean_with : (a b : List ℕ) → Clean a → Follows b → Clean (a ++ b)
clean_with a b h k = record { starts = starts_with a b h.starts; stops = by_end k.ends; quiet = quiet_append a b h.quiet k.quiet } where
  by_end : (b ≡ []) ⊎ Stops b → Stops (a ++ b)
  by_end (inl none) = subst (λ (t : List ℕ). Stops (a ++ t)) (sym none) (subst Stops (sym (append-nil a)) h.stops)
  by_end (inr stops) = stops_with a b stops

follows : (a b : List ℕ) → AreQuiet a → Clean b → Follows (a ++ b)
follows a b h k = record { ends = inr (stops_with a b k.stops); quiet = quiet_append a b h k.quiet }

nothing : Follows []
nothing = record { ends = inl refl; quiet = refl }

-- Features.

compared_quiet : (compared : Comparison) → AreQuiet (comparison_text compared)
compared_quiet Exactly = refl
compared_quiet AtLeast = refl
compared_quiet AtMost = refl

bracket : Clean (codes ")")
bracket = record { starts = record { first = 41; others = []; text_is = refl; word = refl }; stops = record { front = []; last = 41; text_is = refl; word = refl }; quiet = refl }

opening : Starts (codes "(")
opening = record { first = 40; others = []; text_is = refl; word = refl }

sized_clean : (compared : Comparison) (name : List ℕ) (units : ℕ) → AreQuiet name → units ≤ 64000000
    → Clean (codes "(" ++ (comparison_text compared ++ (name ++ (length_text units ++ codes ")"))))
sized_clean compared name units quiet within =
    let size : List ℕ = length_text units ++ codes ")" in
    let inside : List ℕ = comparison_text compared ++ (name ++ size) in
    record {
      starts = starts_with (codes "(") inside opening;
      stops = stops_with (codes "(") inside (stops_with (comparison_text compared) (name ++ size) (stops_with name size (stops_with (length_text units) (codes ")") bracket.stops)));
      quiet = quiet_append (codes "(") inside refl (quiet_append (comparison_text compared) (name ++ size) (compared_quiet compared)
          (quiet_append name size quiet (quiet_append (length_text units) (codes ")") (length_again units within).numeral.quiet refl)));
    }

oriented_quiet : (portrait : Bool) → AreQuiet (orientation_text portrait)
oriented_quiet true = refl
oriented_quiet false = refl

feature_clean : (feature : Feature) → IsFeature feature → Clean (feature_text feature)
unfolding feature_text
feature_clean (WidthFeature compared units) within = sized_clean compared (codes "width:") units refl within
feature_clean (HeightFeature compared units) within = sized_clean compared (codes "height:") units refl within
feature_clean (OrientationFeature portrait) within =
    let rest : List ℕ = orientation_text portrait ++ codes ")" in
    record {
      starts = record { first = 40; others = codes "orientation:" ++ rest; text_is = refl; word = refl };
      stops = stops_with (codes "(orientation:") rest (stops_with (orientation_text portrait) (codes ")") bracket.stops);
      quiet = quiet_append (codes "(orientation:") rest refl (quiet_append (orientation_text portrait) (codes ")") (oriented_quiet portrait) refl);
    }

joined_follows : (joint : List ℕ) (fs : List Feature) → AreQuiet joint → AreFeatures fs → Follows (joined_text joint fs)
unfolding joined_text
joined_follows joint [] quiet within = nothing
joined_follows joint (f ∷ fs) quiet within =
    let behind : List ℕ = feature_text f ++ joined_text joint fs in
    let clean : Clean (feature_text f ++ joined_text joint fs) = clean_with (feature_text f) (joined_text joint fs) (feature_clean f within.0) (joined_follows joint fs quiet within.1) in
    let gap : AreQuiet (codes " ") = refl in
    record {
      ends = inr (stops_with (codes " ") (joint ++ (codes " " ++ behind)) (stops_with joint (codes " " ++ behind) (stops_with (codes " ") behind clean.stops)));
      quiet = quiet_append (codes " ") (joint ++ (codes " " ++ behind)) gap (quiet_append joint (codes " " ++ behind) quiet (quiet_append (codes " ") behind gap clean.quiet));
    }

-- Queries.

medium_clean : (medium : MediaType) → Clean (medium_text medium)
medium_clean AllMedia = record { starts = record { first = 97; others = codes "ll"; text_is = refl; word = refl }; stops = record { front = codes "al"; last = 108; text_is = refl; word = refl }; quiet = refl }
medium_clean ScreenMedia = record { starts = record { first = 115; others = codes "creen"; text_is = refl; word = refl }; stops = record { front = codes "scree"; last = 110; text_is = refl; word = refl }; quiet = refl }
medium_clean PrintMedia = record { starts = record { first = 112; others = codes "rint"; text_is = refl; word = refl }; stops = record { front = codes "prin"; last = 116; text_is = refl; word = refl }; quiet = refl }

prefixed_clean : (before : Prefix) (text : List ℕ) → Clean text → Clean (prefix_text before ++ text)
prefixed_clean NoPrefix text clean = clean
prefixed_clean NotPrefix text clean = record {
  starts = record { first = 110; others = codes "ot " ++ text; text_is = refl; word = refl };
  stops = stops_with (codes "not ") text clean.stops;
  quiet = quiet_append (codes "not ") text refl clean.quiet;
}
prefixed_clean OnlyPrefix text clean = record {
  starts = record { first = 111; others = codes "nly " ++ text; text_is = refl; word = refl };
  stops = stops_with (codes "only ") text clean.stops;
  quiet = quiet_append (codes "only ") text refl clean.quiet;
}

query_clean : (query : MediaQuery) → IsQuery query → Clean (query_text query)
unfolding query_text
query_clean (Typed before medium features) within =
    prefixed_clean before (medium_text medium ++ joined_text (codes "and") features)
    (clean_with (medium_text medium) (joined_text (codes "and") features) (medium_clean medium) (joined_follows (codes "and") features refl within))
query_clean (NotFeature feature) within = prefixed_clean NotPrefix (feature_text feature) (feature_clean feature within)
query_clean (AllFeatures first others) within =
    clean_with (feature_text first) (joined_text (codes "and") others) (feature_clean first within.0) (joined_follows (codes "and") others refl within.1)
query_clean (AnyFeatures first second others) within =
    clean_with (feature_text first) (joined_text (codes "or") (second ∷ others)) (feature_clean first within.0) (joined_follows (codes "or") (second ∷ others) refl (within.1, within.2))

commas_follow : (queries : List MediaQuery) → AreQueries queries → Follows (commas_text queries)
unfolding commas_text
commas_follow [] within = nothing
commas_follow (q ∷ qs) within =
    follows (codes ",") (query_text q ++ commas_text qs) refl (clean_with (query_text q) (commas_text qs) (query_clean q within.0) (commas_follow qs within.1))

pub list_clean : (q : MediaQuery) (qs : List MediaQuery) → AreQueries (q ∷ qs) → Clean (list_text (q ∷ qs))
unfolding list_text
list_clean q qs within = clean_with (query_text q) (commas_text qs) (query_clean q within.0) (commas_follow qs within.1)
