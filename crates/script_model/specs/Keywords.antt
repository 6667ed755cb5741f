-- Fixed words and what each stands for.
use Rattle.std.specs.Prelude.{ℕ, cond, List, [], ◌∷◌, Option, Some, None, bytes_eq}

pub record Keyword (A : Type 0) : Type 0 where
  pub word : List ℕ
  pub means : A

abbrev pub keyword : {A : Type 0} → List ℕ → A → Keyword A
keyword word means = record { word = word; means = means }

-- what a text stands for in a table of fixed words, if it is one of them
unfoldable pub lookup : {A : Type 0} → List (Keyword A) → List ℕ → Option A
lookup [] text = None
lookup (k ∷ ks) text = cond (bytes_eq text k.word) (Some k.means) (lookup ks text)
