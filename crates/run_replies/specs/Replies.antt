-- A reply: the text that is written, and the status after that. All of this is this project's own choice.
use Rattle.std.specs.Prelude.{ℕ, List}
use Rattle.script_model.specs.Reading.{Refusal, refusal_line}
use Rattle.script_model.specs.TraceText.{line_text}
use Rattle.page_model.specs.Outcome.{Outcome, refused_ending, bytes_of}
use Rattle.run_replies.specs.Statuses.{status_at}
use Rattle.run_replies.specs.declared.status.Status.{Status}
use Rattle.run_replies.specs.declared.status.Status.TheVariants.{Done}

pub record Reply : Type 0 where
  pub text : List ℕ
  pub status : Status

abbrev pub done_with : List ℕ → Reply
done_with text = record { text = text; status = Done }

-- a text that isn't a script, or exceeds a limit: the line that says where
abbrev pub refused_with : Refusal → Reply
refused_with refusal = record { text = line_text (refusal_line refusal); status = status_at (refused_ending refusal) }

-- the trace of a run, and how it ends
abbrev pub outcome_reply : Outcome → Reply
outcome_reply outcome = record { text = bytes_of outcome.lines; status = status_at outcome.ending }
