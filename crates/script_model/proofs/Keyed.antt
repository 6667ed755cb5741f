-- A table of the words of some values: what a text stands for there is the value whose word it is.
use Rattle.std.proofs.Common.{◌≡◌, ◌∙◌, refl, ap, ℕ, List, [], ◌∷◌, Some}
use Rattle.std.specs.Prelude.{cond, map, bytes_eq}
use Rattle.std.proofs.lemmas.Cmp.{nat_list_eq_equiv}
use Rattle.text_io.specs.Kinds.{named, version_word, all_versions, version_of, event_word, event_kinds, event_of}
use Rattle.script_model.specs.Keywords.{Keyword, keyword, lookup}
use Rattle.script_model.specs.Words.{events, versions}

abbrev table_of : {A : Type 0} → (A → List ℕ) → List A → List (Keyword A)
table_of word_of values = map (λ value. keyword (word_of value) value) values

looked_up : {A : Type 0} (word_of : A → List ℕ) (values : List A) (text : List ℕ) → named word_of values text ≡ lookup (table_of word_of values) text
unfolding named lookup
looked_up word_of [] text = refl
looked_up word_of (v ∷ vs) text =
    ap (λ found. cond found (Some v) (named word_of vs text)) (nat_list_eq_equiv.symm (word_of v) text)
    ∙ ap (cond (bytes_eq text (word_of v)) (Some v)) (looked_up word_of vs text)

pub event_named : (text : List ℕ) → event_of text ≡ lookup events text
event_named text = looked_up event_word event_kinds text

pub version_named : (text : List ℕ) → version_of text ≡ lookup versions text
version_named text = looked_up version_word all_versions text
