-- A script's text with its last line ended, unless that would make it longer than a script may be.
use Rattle.std.specs.Prelude.{ℕ, nat_lt, cond, List, [], ◌∷◌, ◌++◌, length}
use Rattle.text_io.specs.declared.kinds.LimitKind.TheVariants as limits
use Rattle.text_io.specs.Limits.{common_limit}

abbrev pub ended : List ℕ → List ℕ
ended text = cond (nat_lt (length text) (common_limit limits.Script)) (text ++ (10 ∷ [])) text
