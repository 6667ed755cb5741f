-- What is written of a script by what is done with it, and of a run's summary.
use Rattle.std.proofs.Common.{◌≡◌, ◌∙◌, refl, ap, sym, subst, ℕ, List, [], ◌∷◌, ◌++◌, Option, Some}
use Rattle.std.specs.Prelude.{Result, Ok}
use Rattle.text_io.specs.declared.kinds.LimitKind.{LimitKind}
use Rattle.script_model.specs.Syntax.{Script}
use Rattle.script_model.specs.Summary.{summary_text}
use Rattle.script_model.specs.TraceLines.{TraceLine, LimitLine}
use Rattle.script_text.specs.ScriptText.{printed}
use Rattle.page_model.specs.Outcome.{check_read, ending_of, opening_world, outcome_read, run_items, summary_read}
use Rattle.page_model.specs.Runs as runs
use Rattle.page_model.specs.Runs.{Flow, Said}
use Rattle.page_model.specs.World.{World}
use Rattle.trace_runs.specs.declared.faults.RunFault.{RunFault}
use Rattle.trace_runs.specs.Runs as Run
use Rattle.trace_runs.specs.Writes.{Wrote}
use Rattle.trace_summary.specs.Counts.{IsTrace}
use Rattle.run_replies.specs.Answers.{Tells}
use Rattle.run_replies.specs.Certificates.{lint_text}
use Rattle.run_replies.specs.Replies.{Reply, done_with, outcome_reply}
use Rattle.run_replies.specs.Statuses.{status_after, status_at}
use Rattle.run_replies.specs.declared.words.Job.TheVariants as job
use Rattle.run_replies.specs.declared.status.Status.{Status}
use Rattle.run_replies.specs.declared.status.Status.TheVariants.{Done, Limit}
use Rattle.run_replies.proofs.Summaries.{gathered_trace, wrote_tells}
use Rattle.script_replay.specs.ScriptReplies.{script_reply}

-- what is done with a script
pub replay_tells : (status : Status) (script : Script) (before after : Option (List ℕ)) (f g : ℕ) → Tells status (outcome_reply (outcome_read (Ok script))) before after f g
    → Tells status (script_reply job.Replay script) before after f g
unfolding script_reply
replay_tells status script before after f g told = told

pub check_tells : (status : Status) (script : Script) (before after : Option (List ℕ)) (f g : ℕ) → Tells status (done_with (check_read (Ok script))) before after f g
    → Tells status (script_reply job.Check script) before after f g
unfolding script_reply
check_tells status script before after f g told = told

pub lint_tells : (status : Status) (script : Script) (before after : Option (List ℕ)) (f g : ℕ) → Tells status (done_with (lint_text (script.items))) before after f g
    → Tells status (script_reply job.Lint script) before after f g
unfolding script_reply
lint_tells status script before after f g told = told

pub print_tells : (status : Status) (script : Script) (before after : Option (List ℕ)) (f g : ℕ) → Tells status (done_with (printed script)) before after f g
    → Tells status (script_reply job.Print script) before after f g
unfolding script_reply
print_tells status script before after f g told = told

-- the summary of a run's lines, and how the run ends
abbrev summary_reply : Said World → Reply
summary_reply said = record { text = summary_text (said.lines); status = status_at (ending_of (said.flow)) }

summary-is : (script : Script) → summary_reply (run_items (script.items) (opening_world (script.version))) ≡ script_reply job.Summary script
unfolding script_reply outcome_read summary_read
summary-is script = refl

module _ (script : Script) (world : World) (opening : world ≡ opening_world (script.version)) where
  abbrev said : Said World
  said = run_items (script.items) world

  -- the summary of these lines is that of the script's run
  run_tells : (status ended : Status) (lines : List TraceLine) (before after : Option (List ℕ)) (f g : ℕ) → status_at (ending_of (said.flow)) ≡ ended → said.lines ≡ lines
      → Tells status (record { text = summary_text lines; status = ended }) before after f g → Tells status (script_reply job.Summary script) before after f g
  run_tells status ended lines before after f g ends same told =
      let by-run : Tells status (record { text = summary_text (said.lines); status = ended }) before after f g =
      subst (λ (told : List TraceLine). Tells status (record { text = summary_text told; status = ended }) before after f g) (sym same) told in
      let by-end : Tells status (summary_reply said) before after f g =
      subst (λ (end : Status). Tells status (record { text = summary_text (said.lines); status = end }) before after f g) (sym ends) by-run in
      subst (λ (reply : Reply). Tells status reply before after f g) (ap (λ (w : World). summary_reply (run_items (script.items) w)) opening ∙ summary-is script) by-end

  ended-so : {new : World} {b a : Option (List ℕ)} {f g : ℕ} → Run.Ended runs.Next new b a f g said → status_at (ending_of (said.flow)) ≡ Done
  unfolding ending_of
  ended-so ended = ap (λ (flow : Flow). status_at (ending_of flow)) ended.flow_is

  limited-so : said.flow ≡ runs.Limited → status_at (ending_of (said.flow)) ≡ Limit
  unfolding ending_of
  limited-so flow = ap (λ (flow : Flow). status_at (ending_of flow)) flow

  -- a run to its end
  pub done_summary : {A : Type 0} {new : World} (gathered taken : List ℕ) (fg gg : ℕ) (r : Result A RunFault) (before after : Option (List ℕ)) (f g : ℕ) → gathered ≡ []
      → Run.Ended runs.Next new (Some gathered) (Some taken) fg gg said
      → ((lines : List TraceLine) → IsTrace taken lines → Wrote r before after f g (summary_text lines))
      → Tells (status_after r Done) (script_reply job.Summary script) before after f g
  done_summary gathered taken fg gg r before after f g none ended wrote =
      run_tells (status_after r Done) Done (said.lines) before after f g (ended-so ended) refl
      (wrote_tells r Done (summary_text (said.lines)) before after f g tt (wrote (said.lines) (gathered_trace gathered taken (said.lines) none ended.written)))

  -- a run to a limit
  pub limit_summary : {new : World} (gathered taken : List ℕ) (fg gg : ℕ) (kind : LimitKind) (line most : ℕ) (status : Status) (before after : Option (List ℕ)) (f g : ℕ) → gathered ≡ []
      → Run.MeetsLimit kind line most new (Some gathered) (Some taken) fg gg said
      → ((lines : List TraceLine) → IsTrace taken lines → Tells status (record { text = summary_text (lines ++ (LimitLine kind line most ∷ [])); status = Limit }) before after f g)
      → Tells status (script_reply job.Summary script) before after f g
  limit_summary gathered taken fg gg kind line most status before after f g none met told =
      run_tells status Limit (met.lines ++ (LimitLine kind line most ∷ [])) before after f g (limited-so met.flow_is) met.last
      (told met.lines (gathered_trace gathered taken met.lines none met.written))
