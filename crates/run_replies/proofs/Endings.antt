-- What a run answers, by the ending of the outcome.
use Rattle.std.proofs.Common.{◌≡◌, ◌∙◌, ℕ, List, [], ◌∷◌, ◌++◌, Option, ap, sym, subst}
use Rattle.std.specs.Prelude.{Result, Ok, Err}
use Rattle.std.specs.Io.KnownBytes.{Appends}
use Rattle.text_io.specs.declared.kinds.LimitKind.{LimitKind}
use Rattle.script_model.specs.Syntax.{Script}
use Rattle.script_model.specs.TraceLines.{LimitLine}
use Rattle.page_model.specs.Outcome.{Outcome, outcome_read, outcome_said, ending_of, bytes_of, opening_world, run_items}
use Rattle.page_model.specs.Runs as runs
use Rattle.page_model.specs.Runs.{Said}
use Rattle.page_model.specs.World.{World}
use Rattle.trace_runs.specs.declared.faults.RunFault.{RunFault}
use Rattle.trace_runs.specs.declared.faults.RunFault.TheVariants as fault
use Rattle.trace_runs.specs.Runs as Run
use Rattle.trace_runs.specs.Writes.{AppendsLines, FailsWithin, Told}
use Rattle.trace_runs.proofs.Lines.{bytes_both, lines_end}
use Rattle.trace_runs.proofs.Writes.{both, lines_behind, failure_behind}
use Rattle.run_replies.specs.Answers.{Tells, Ends}
use Rattle.run_replies.specs.Replies.{Reply, outcome_reply}
use Rattle.run_replies.specs.Statuses.{status_after, status_at}
use Rattle.run_replies.specs.declared.status.Status.{Status}
use Rattle.run_replies.specs.declared.status.Status.TheVariants.{Done, Limit, NoMemory, ReadFault, WriteFault}

-- where no read failed
pub tells_end : (status : Status) (reply : Reply) (before after : Option (List ℕ)) (f g : ℕ) → Tells status reply before after f g → Ends status reply before after f g
tells_end ReadFault reply before after f g w = absurd w
tells_end status reply before after f g w = w

-- a script that was run

run-outcome : (script : Script) (world : World) → world ≡ opening_world (script.version) → outcome_said (run_items (script.items) world) ≡ outcome_read (Ok script)
unfolding outcome_read
run-outcome script world opening = ap (λ (w : World). outcome_said (run_items (script.items) w)) opening

module _ (script : Script) (world : World) (opening : world ≡ opening_world (script.version)) (before : Option (List ℕ)) (f : ℕ) where
  abbrev said : Said World
  said = run_items (script.items) world

  as_run : (status : Status) (after : Option (List ℕ)) (g : ℕ) → Tells status (outcome_reply (outcome_said said)) before after f g → Tells status (outcome_reply (outcome_read (Ok script))) before after f g
  as_run status after g w = subst (λ (x : Outcome). Tells status (outcome_reply x) before after f g) (run-outcome script world opening) w

  -- to its end
  done-so : {new : World} {after : Option (List ℕ)} {g : ℕ} → Run.Ended runs.Next new before after f g said → Tells Done (outcome_reply (outcome_said said)) before after f g
  unfolding ending_of
  done-so ended = (ap (λ (flow : runs.Flow). status_at (ending_of flow)) ended.flow_is, ended.written.written, ended.unfailed)

  pub done_answers : {new : World} {after : Option (List ℕ)} {g : ℕ} → Run.Ended runs.Next new before after f g said → Tells Done (outcome_reply (outcome_read (Ok script))) before after f g
  done_answers {after = after} {g = g} ended = as_run Done after g (done-so ended)

  pub done_world : {new : World} {after : Option (List ℕ)} {g : ℕ} → Run.Ended runs.Next new before after f g said → new ≡ (outcome_read (Ok script)).world
  done_world ended = sym ended.state_is ∙ ap (λ (x : Outcome). x.world) (run-outcome script world opening)

  -- to a limit, whose line is then written
  module _ {new : World} (kind : LimitKind) (line most : ℕ) (mid : Option (List ℕ)) (fm : ℕ) (met : Run.MeetsLimit kind line most new before mid f fm said) where
    whole : bytes_of met.lines ++ bytes_of (LimitLine kind line most ∷ []) ≡ bytes_of said.lines
    whole = bytes_both met.lines (LimitLine kind line most ∷ []) ∙ sym (ap bytes_of met.last)

    limit-so : {A : Type 0} (r : Result A RunFault) (after : Option (List ℕ)) (g : ℕ) → Told r mid after fm g (LimitLine kind line most ∷ []) → Tells (status_after r Limit) (outcome_reply (outcome_said said)) before after f g
    unfolding ending_of
    limit-so (Ok done) after g w =
        (ap (λ (flow : runs.Flow). status_at (ending_of flow)) met.flow_is, subst (λ (t : List ℕ). Appends before after t) whole (both before mid after (bytes_of met.lines) (bytes_of (LimitLine kind line most ∷ [])) met.written.written w.0.written), w.1 ∙ met.unfailed)
    limit-so (Err (fault.Limit other at number)) after g w = absurd w
    limit-so (Err fault.Memory) after g w =
        (subst (λ (t : List ℕ). AppendsLines before after t) whole (lines_behind before (bytes_of met.lines) (lines_end met.lines) met.written.written w.0), w.1 ∙ met.unfailed)
    limit-so (Err fault.WriteFault) after g w = subst (λ (t : List ℕ). FailsWithin before after f g t) whole (failure_behind before f (bytes_of met.lines) met.written.written met.unfailed w)

    pub limit_said : {A : Type 0} (r : Result A RunFault) (after : Option (List ℕ)) (g : ℕ) → Told r mid after fm g (LimitLine kind line most ∷ []) → Tells (status_after r Limit) (outcome_reply (outcome_read (Ok script))) before after f g
    limit_said r after g w = as_run (status_after r Limit) after g (limit-so r after g w)

  -- cut off for want of memory or by a write
  pub memory_answers : {after : Option (List ℕ)} (g : ℕ) → AppendsLines before after (bytes_of said.lines) × (g ≡ f) → Tells NoMemory (outcome_reply (outcome_read (Ok script))) before after f g
  memory_answers {after = after} g w = as_run NoMemory after g w

  pub failed_answers : {after : Option (List ℕ)} {g : ℕ} → FailsWithin before after f g (bytes_of said.lines) → Tells WriteFault (outcome_reply (outcome_read (Ok script))) before after f g
  failed_answers {after = after} {g = g} w = as_run WriteFault after g w
