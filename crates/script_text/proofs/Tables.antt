-- Tables of fixed words, and what holds of each of their entries.
use Rattle.std.proofs.Common.{◌≡◌, ℕ, Bool, true, false, cond, ◌&&◌, List, [], ◌∷◌, Some, refl, ap, sym, subst}
use Rattle.std.specs.Prelude.{bytes_eq}
use Rattle.std.proofs.lemmas.Bool.{and_parts}
use Rattle.std.proofs.lemmas.Slice.Eq.{bytes_eq-Decides}
use Rattle.script_model.specs.Keywords.{Keyword, lookup}
use Rattle.script_text.specs.Entries.{entry_at}
use Rattle.script_text.specs.WellFormed.{IfSome}
use Rattle.script_text.proofs.WordBytes.{IsWord, is_word, as_word}

pub lookup_found : {A : Type 0} (ks : List (Keyword A)) (word : List ℕ) → lookup ks word ≡ entry_at ks word
unfolding lookup
lookup_found [] word = refl
lookup_found (k ∷ ks) word = ap (cond (bytes_eq word k.word) (Some k.means)) (lookup_found ks word)

-- something holds of each word of a table with what it stands for
abbrev pub Each : {A : Type 0} → (List ℕ → A → Type 0) → List (Keyword A) → Type 0
Each Is [] = Unit {0}
Each Is (k ∷ ks) = Is k.word k.means × Each Is ks

pub looked_up : {A : Type 0} (Is : List ℕ → A → Type 0) (ks : List (Keyword A)) → Each Is ks → (text : List ℕ) → IfSome (Is text) (lookup ks text)
unfolding lookup
looked_up Is [] each text = tt
looked_up Is (k ∷ ks) each text = chosen (bytes_eq text k.word) refl (looked_up Is ks each.1 text) where
  chosen : (same : Bool) → bytes_eq text k.word ≡ same → IfSome (Is text) (lookup ks text) → IfSome (Is text) (cond same (Some k.means) (lookup ks text))
  chosen true e others = subst (λ (t : List ℕ). Is t k.means) (sym ((bytes_eq-Decides text k.word).0 e)) each.0
  chosen false e others = others

abbrev pub are_words : {A : Type 0} → List (Keyword A) → Bool
are_words [] = true
are_words (k ∷ ks) = is_word k.word && are_words ks

each_word : {A : Type 0} (ks : List (Keyword A)) → are_words ks ≡ true → Each (λ word means. IsWord word) ks
each_word [] words = tt
each_word (k ∷ ks) words = let both = and_parts _ _ words in (as_word k.word both.0, each_word ks both.1)

-- what stands in such a table is a word of a line
pub table_word : {A : Type 0} (ks : List (Keyword A)) → are_words ks ≡ true → (text : List ℕ) (means : A) → lookup ks text ≡ Some means → IsWord text
table_word ks words text means found = subst (IfSome (λ means. IsWord text)) found (looked_up (λ word means. IsWord word) ks (each_word ks words) text)
