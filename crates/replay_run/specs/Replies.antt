-- The reply to the words of a command line: the text that is written, and the status after that. It is a function of the words
-- and of the source's bytes only. All of this is this project's own choice.
use Rattle.std.specs.Prelude.{◌≡◌, ℕ, Bool, true, false, cond, nat_lt, List, length, Option, None, Some, Err}
use Rattle.text_io.specs.declared.kinds.LimitKind.TheVariants as limits
use Rattle.text_io.specs.Limits.{common_limit}
use Rattle.script_model.specs.Generator.{generated}
use Rattle.script_model.specs.Reading.{reading, LimitAt, Refusal, last_line}
use Rattle.script_model.specs.TraceText.{line_text}
use Rattle.page_model.specs.Outcome.{trace}
use Rattle.trace_judge.specs.declared.judgement.Judgement.{Judgement}
use Rattle.trace_judge.specs.declared.judgement.Judgement.TheVariants as judgements
use Rattle.trace_judge.specs.Judging.{judgement}
use Rattle.trace_judge.specs.Recordings.{script_of, trace_of}
use Rattle.trace_judge.specs.Texts.{judgement_text}
use Rattle.run_replies.specs.Replies.{Reply, refused_with}
use Rattle.run_replies.specs.declared.status.Status.{Status}
use Rattle.run_replies.specs.declared.status.Status.TheVariants.{Done, Differs}
use Rattle.run_replies.specs.declared.words.Words.{Words}
use Rattle.run_replies.specs.declared.words.Words.TheVariants.{Script, Generated, Judge, Pages}
use Rattle.script_replay.specs.ScriptReplies.{read_reply, takes_steps}
use Rattle.stream_replay.specs.StreamReplies.{pages_reply}

abbrev pub judgement_status : Judgement → Status
judgement_status (judgements.Equal lines) = Done
judgement_status (judgements.Differs line how) = Differs

-- the line that reports a judgement
unfoldable pub judgement_reply : Judgement → Reply
unfolding judgement_text
judgement_reply it = record { text = judgement_text it; status = judgement_status it }

-- the recorded trace behind a script, judged against the trace of the script, however that one ends
unfoldable pub judge_reply : List ℕ → Reply
unfolding judgement judgement_reply last_line line_text script_of trace trace_of
judge_reply source =
    cond (nat_lt (common_limit limits.Recorded) (length source))
    (refused_with (LimitAt limits.Recorded (last_line (common_limit limits.Recorded) source)))
    (judgement_reply (judgement (trace (script_of source)) (trace_of source)))

-- the text of the script that the words refer to
abbrev pub script_text : Words → List ℕ → List ℕ
script_text (Script job) source = source
script_text (Generated job number) source = generated number
script_text Judge source = script_of source
script_text Pages source = source

abbrev pub reply : Words → List ℕ → Reply
reply (Script job) source = read_reply job (reading source)
reply (Generated job number) source = read_reply job (reading (generated number))
reply Judge source = judge_reply source
reply Pages source = pages_reply source

-- the words for which a script is run, of a page or of several
abbrev pub steps_for : Option Words → Bool
steps_for None = false
steps_for (Some (Script job)) = takes_steps job
steps_for (Some (Generated job number)) = takes_steps job
steps_for (Some Judge) = true
steps_for (Some Pages) = true

-- the words refer to a script in the source, and it isn't one
abbrev pub IsRefused : Words → List ℕ → Type 0
IsRefused (Script job) source = (refusal : Refusal) × (reading source ≡ Err refusal)
IsRefused (Generated job number) source = ⊥
IsRefused Judge source = (refusal : Refusal) × (reading (script_of source) ≡ Err refusal)
IsRefused Pages source = ⊥
