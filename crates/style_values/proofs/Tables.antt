-- A table of fixed words whose meanings are seen as others.
use Rattle.std.proofs.Common.{◌≡◌, ℕ, Bool, true, false, cond, List, [], ◌∷◌, map, Option, Some, refl, ap, ◌∙◌}
use Rattle.std.specs.Prelude.{option_map, bytes_eq}
use Rattle.script_model.specs.Keywords.{Keyword, keyword, lookup}

abbrev pub meaning : {A B : Type 0} → (A → B) → Keyword A → Keyword B
meaning see k = keyword k.word (see k.means)

option_cond : {A B : Type 0} (see : A → B) (b : Bool) (x : A) (y : Option A) → option_map see (cond b (Some x) y) ≡ cond b (Some (see x)) (option_map see y)
option_cond see true x y = refl
option_cond see false x y = refl

pub mapped : {A B : Type 0} (see : A → B) (table : List (Keyword A)) (text : List ℕ) → option_map see (lookup table text) ≡ lookup (map (meaning see) table) text
unfolding lookup
mapped see [] text = refl
mapped see (k ∷ ks) text = option_cond see (bytes_eq text k.word) k.means (lookup ks text) ∙ ap (λ rest. cond (bytes_eq text k.word) (Some (see k.means)) rest) (mapped see ks text)
