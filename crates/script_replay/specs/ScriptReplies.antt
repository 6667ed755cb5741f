-- The reply to a job for one script: the text that is written, and the status after that. All of this is this project's own
-- choice.
use Rattle.std.specs.Prelude.{ℕ, Bool, true, false, cond, nat_lt, List, Ok, Err}
use Rattle.script_model.specs.Syntax as syntax
use Rattle.script_model.specs.Reading.{Reading}
use Rattle.script_model.specs.TraceText.{line_text}
use Rattle.script_text.specs.ScriptText.{printed}
use Rattle.page_model.specs.World.{World}
use Rattle.page_model.specs.Runs.{Flow, Next, Thrown, Limited, Said}
use Rattle.page_model.specs.Outcome.{outcome_read, bytes_of, check_read, summary_read}
use Rattle.run_replies.specs.Certificates.{lint_text}
use Rattle.run_replies.specs.Replies.{Reply, done_with, outcome_reply, refused_with}
use Rattle.run_replies.specs.Statuses.{status_at}
use Rattle.run_replies.specs.declared.status.Status.TheVariants.{Limit}
use Rattle.run_replies.specs.declared.words.Job.{Job}
use Rattle.run_replies.specs.declared.words.Job.TheVariants.{Replay, Check, Lint, Summary, Print, AtTick}
use Rattle.run_replies.specs.declared.words.Sight.{Sight}
use Rattle.script_items.specs.Stops.{after, tick_count}
use Rattle.script_replay.specs.Sights.{last_of, sight_text, ticks_text}

-- what is shown of the page of a script at the end of one of its ticks, or the number of its ticks if it has fewer
unfoldable pub told_text : Sight → ℕ → List syntax.Item → World → List ℕ
unfolding sight_text tick_count ticks_text
told_text sight number items world = cond (nat_lt (tick_count items) number) (ticks_text (tick_count items)) (sight_text sight world)

-- the same, by how the run up to that tick ends: if it met a limit, the line that says so
abbrev pub told_with : Sight → ℕ → List syntax.Item → Said World → Flow → Reply
told_with sight number items said Next = done_with (told_text sight number items (said.state))
told_with sight number items said Thrown = done_with (told_text sight number items (said.state))
told_with sight number items said Limited = record { text = bytes_of (last_of (said.lines)); status = Limit }

unfoldable pub sight_reply : Sight → ℕ → syntax.Script → Reply
unfolding after bytes_of last_of told_text
sight_reply sight number script = told_with sight number (script.items) (after script number) (after script number).flow

-- the jobs for which a script is run
abbrev pub takes_steps : Job → Bool
takes_steps Replay = true
takes_steps Check = false
takes_steps Lint = false
takes_steps Summary = true
takes_steps Print = false
takes_steps (AtTick sight number) = true

-- the reply of each job for a script
unfoldable pub script_reply : Job → syntax.Script → Reply
unfolding outcome_read bytes_of check_read lint_text sight_reply summary_read printed
script_reply Replay script = outcome_reply (outcome_read (Ok script))
script_reply Check script = done_with (check_read (Ok script))
script_reply Lint script = done_with (lint_text (script.items))
script_reply Summary script = record { text = summary_read (Ok script); status = status_at (outcome_read (Ok script)).ending }
script_reply Print script = done_with (printed script)
script_reply (AtTick sight number) script = sight_reply sight number script

-- the same for a text, by the result of reading it
unfoldable pub read_reply : Job → Reading → Reply
unfolding script_reply line_text
read_reply job (Ok script) = script_reply job script
read_reply job (Err refusal) = refused_with refusal
