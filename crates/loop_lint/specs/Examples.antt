-- What the definitions give for a script's text: the lines that rule out each certificate, the depths of its loops, and how many error
-- lines its trace has.
use Rattle.std.specs.Prelude.{ℕ, List, [], map, count_by, Ok, Err}
use Rattle.script_model.specs.Scripts.{handlers_in}
use Rattle.script_model.specs.Reading.{Reading, reading}
use Rattle.page_model.specs.Outcome.{opening_world, run_items}
use Rattle.loop_laws.specs.WholeLoops.{round_starts}
use Rattle.loop_laws.specs.Rounds.{round_depth}
use Rattle.loop_laws.specs.RunLoops.{loops_of_run}
use Rattle.loop_lint.specs.LoopHandlers.{loop_handler_lines}
use Rattle.loop_lint.specs.Verdicts.{moves, disturbs}
use Rattle.loop_lint.specs.RunLoops.{depths_of, is_error_line}

pub record Seen : Type 0 where
  pub moving : List ℕ
  pub disturbing : List ℕ
  pub depths : List (List ℕ)
  pub errors : ℕ

unfoldable pub seen_read : Reading → Seen
unfolding run_items handlers_in loops_of_run round_starts round_depth loop_handler_lines
seen_read (Ok script) = record {
  moving = loop_handler_lines moves (script.items);
  disturbing = loop_handler_lines disturbs (script.items);
  depths = map (depths_of (handlers_in (script.items))) (loops_of_run (script.version) (script.items));
  errors = count_by is_error_line (run_items (script.items) (opening_world (script.version))).lines;
}
seen_read (Err refusal) = record { moving = []; disturbing = []; depths = []; errors = 0 }

unfoldable pub seen : List ℕ → Seen
unfolding reading seen_read
seen text = seen_read (reading text)
