-- What no words ask for.
use Rattle.std.proofs.Common.{◌≡◌, ℕ, List, [], refl}
use Rattle.std.specs.Prelude.{Some, Ok, Err}
use Rattle.script_model.specs.Reading.{Reading, reading}
use Rattle.page_model.specs.Outcome.{bytes_of, outcome, outcome_read, trace}
use Rattle.trace_runs.proofs.Lines.{bytes_one}
use Rattle.script_replay.specs.ScriptReplies.{read_reply, script_reply}
use Rattle.replay_run.specs.Replies.{reply}
use Rattle.run_replies.specs.Statuses.{status_at}
use Rattle.run_replies.specs.Words.{asked}
use Rattle.run_replies.specs.declared.words.Job.TheVariants.{Replay}
use Rattle.run_replies.specs.declared.words.Words.TheVariants.{Script}

pub nothing_asked : asked [] ≡ Some (Script Replay)
unfolding asked
nothing_asked = refl

pub read_text : (read : Reading) → (read_reply Replay read).text ≡ bytes_of (outcome_read read).lines
unfolding read_reply script_reply outcome_read
read_text (Ok items) = refl
read_text (Err refusal) = bytes_one _

pub read_status : (read : Reading) → (read_reply Replay read).status ≡ status_at (outcome_read read).ending
unfolding read_reply script_reply outcome_read
read_status (Ok items) = refl
read_status (Err refusal) = refl

pub trace_written : (text : List ℕ) → (reply (Script Replay) text).text ≡ trace text
unfolding trace outcome
trace_written text = read_text (reading text)

pub ending_same : (text : List ℕ) → (reply (Script Replay) text).status ≡ status_at (outcome text).ending
unfolding outcome
ending_same text = read_status (reading text)
