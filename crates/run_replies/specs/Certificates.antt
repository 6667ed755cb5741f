-- What is written of a script's certificates: whether its resize loops always go deeper, and whether none of them ends with the
-- error; if one is withheld, the line of the first command that prevents it (this project's own).
use Rattle.std.specs.Prelude.{ℕ, List, [], ◌∷◌, ◌++◌, Option, Some, None, slice_get, codes}
use Rattle.word_model.specs.Numbers.{decimal}
use Rattle.script_model.specs.Syntax.{Item}
use Rattle.loop_lint.specs.LoopHandlers.{loop_handler_lines}
use Rattle.loop_lint.specs.Verdicts.{moves, disturbs}

abbrev pub certificate_text : List ℕ → List ℕ → Option ℕ → List ℕ
certificate_text given withheld None = given ++ 10 ∷ []
certificate_text given withheld (Some line) = (withheld ++ decimal line) ++ 10 ∷ []

unfoldable pub lint_text : List Item → List ℕ
unfolding loop_handler_lines
lint_text items =
    certificate_text (codes "steady") (codes "unsteady ") (slice_get (loop_handler_lines moves items) 0)
    ++ certificate_text (codes "quiet") (codes "unquiet ") (slice_get (loop_handler_lines disturbs items) 0)
