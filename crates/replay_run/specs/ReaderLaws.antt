-- The lines of a script's certificates.
use Rattle.std.specs.Prelude.{ℕ, List, slice_get, codes}
use Rattle.script_model.specs.Syntax.{Item}
use Rattle.loop_lint.specs.LoopHandlers.{loop_handler_lines}
use Rattle.loop_lint.specs.Verdicts.{moves, disturbs}
use Rattle.run_replies.specs.Certificates.{certificate_text}

-- `steady`, or `unsteady` and the line of the first command that prevents it
unfoldable pub steady_line : List Item → List ℕ
unfolding loop_handler_lines
steady_line items = certificate_text (codes "steady") (codes "unsteady ") (slice_get (loop_handler_lines moves items) 0)

-- `quiet`, or `unquiet` and that line
unfoldable pub quiet_line : List Item → List ℕ
unfolding loop_handler_lines
quiet_line items = certificate_text (codes "quiet") (codes "unquiet ") (slice_get (loop_handler_lines disturbs items) 0)
