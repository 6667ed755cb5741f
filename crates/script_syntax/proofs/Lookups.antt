-- The first word of a table of fixed words.
use Rattle.std.proofs.Common.{◌≡◌, ℕ, true, false, cond, List, ◌∷◌, Some, ap}
use Rattle.std.specs.Prelude.{bytes_eq}
use Rattle.script_model.specs.Keywords.{Keyword, lookup}

pub found_first : {A : Type 0} (k : Keyword A) (ks : List (Keyword A)) (text : List ℕ) → bytes_eq text k.word ≡ true → lookup (k ∷ ks) text ≡ Some k.means
unfolding lookup
found_first k ks text e = ap (λ found. cond found (Some k.means) (lookup ks text)) e

pub passed_first : {A : Type 0} (k : Keyword A) (ks : List (Keyword A)) (text : List ℕ) → bytes_eq text k.word ≡ false → lookup (k ∷ ks) text ≡ lookup ks text
unfolding lookup
passed_first k ks text e = ap (λ found. cond found (Some k.means) (lookup ks text)) e
