-- Runs of one step, and of a step that is another one in other words.
use Rattle.std.proofs.Common.{◌≡◌, ℕ, Bool, true, false, List, ◌++◌, Option, refl, ap, sym, subst, ◌∙◌, append_assoc}
use Rattle.std.specs.Prelude.{Result, Ok, Err}
use Rattle.script_model.specs.TraceLines.{TraceLine}
use Rattle.page_model.specs.Outcome.{bytes_of}
use Rattle.page_model.specs.Runs.{Said, Flow as Going, Next as Goes, Limited, say, silent, behind, caught, caught_flow, lifted, only_if}
use Rattle.trace_runs.specs.declared.faults.RunFault.{RunFault}
use Rattle.trace_runs.specs.declared.faults.RunFault.TheVariants.{Limit, Memory, WriteFault}
use Rattle.trace_runs.specs.declared.faults.Flow.{Flow}
use Rattle.trace_runs.specs.declared.faults.Flow.TheVariants.{Next, Thrown}
use Rattle.trace_runs.specs.Flows.{flow_of, goes_on}
use Rattle.trace_runs.specs.Runs.{CutOff, Runs}
use Rattle.trace_runs.specs.Writes.{AppendsLines, FailsWithin, Says, Told}
use Rattle.trace_runs.proofs.Lines.{bytes_both, lines_end, says_none, says_both}
use Rattle.trace_runs.proofs.Writes.{no_line, lines_behind, failure_behind}

-- the same step in other words
pub run_same : {A S : Type 0} {flow : A → Going} {state : S} {result : Result A RunFault} {before after : Option (List ℕ)} {f g : ℕ} {said other : Said S}
    → said ≡ other → Runs flow state result before after f g said → Runs flow state result before after f g other
run_same {flow = flow} {state} {result} {before} {after} {f} {g} same run = subst (λ it. Runs flow state result before after f g it) same run

-- nothing is said, and nothing was written
pub silent_run : {A S : Type 0} {flow : A → Going} {state : S} {value : A} {now : Option (List ℕ)} {f : ℕ}
    → flow value ≡ Goes → Runs flow state (Ok value) now now f f (silent state)
silent_run {now = now} goes = record {
  ended = record { written = says_none now; unfailed = refl; flow_is = sym goes; state_is = refl };
  cut_off = tt;
}

-- no memory was left before anything was written
pub memory_run : {A S : Type 0} {flow : A → Going} {state : S} {now : Option (List ℕ)} {f : ℕ} (said : Said S) → Runs flow state (Err Memory) now now f f said
memory_run {now = now} said = record { ended = tt; cut_off = (no_line now (bytes_of (said.lines)), refl) }

-- the lines of a step
pub lines_run : {A S : Type 0} {flow : A → Going} {state : S} (result : Result A RunFault) {before after : Option (List ℕ)} {f g : ℕ} {said : Said S}
    → Told result before after f g (said.lines) → ((value : A) → said.flow ≡ flow value) → said.state ≡ state
    → Runs flow state result before after f g said
lines_run (Ok value) wrote flow_is state_is =
    record { ended = record { written = wrote.0; unfailed = wrote.1; flow_is = flow_is value; state_is = state_is }; cut_off = tt }
lines_run (Err (Limit kind line number)) wrote flow_is state_is = absurd wrote
lines_run (Err Memory) wrote flow_is state_is = record { ended = tt; cut_off = wrote }
lines_run (Err WriteFault) wrote flow_is state_is = record { ended = tt; cut_off = wrote }

goes≢limited : Goes ≡ Limited → ⊥
goes≢limited same = cc

-- lines alone
pub say_run : {A S : Type 0} (result : Result A RunFault) {before after : Option (List ℕ)} {f g : ℕ} {lines : List TraceLine} {state : S}
    → Told result before after f g lines → Runs goes_on state result before after f g (say lines state)
say_run result {lines = lines} {state} wrote = lines_run result {said = say lines state} wrote (λ value. refl) refl

-- lines whose writing was cut off, which leaves the state open
pub unsaid_run : {A S : Type 0} {flow : A → Going} {state : S} (fault : RunFault) {before after : Option (List ℕ)} {f g : ℕ} {lines : List TraceLine} {now : S}
    → Told {A = Unit {0}} (Err fault) before after f g lines → Runs flow state (Err fault) before after f g (say lines now)
unsaid_run (Limit kind line number) wrote = absurd wrote
unsaid_run Memory wrote = record { ended = tt; cut_off = wrote }
unsaid_run WriteFault wrote = record { ended = tt; cut_off = wrote }

behind_cut : {S : Type 0} (fault : RunFault) (state : S) (before mid after : Option (List ℕ)) (f fm g : ℕ) (part : List TraceLine) (said : Said S)
    → Says before mid part → fm ≡ f → CutOff fault state mid after fm g said → CutOff fault state before after f g (behind part said)
behind_cut (Limit kind line number) state before mid after f fm g part said first unfailed cut = record {
  lines = part ++ cut.lines;
  last = ap (λ (rest : List TraceLine). part ++ rest) cut.last ∙ sym (append_assoc part cut.lines _);
  written = says_both first cut.written;
  unfailed = cut.unfailed ∙ unfailed;
  flow_is = cut.flow_is;
  state_is = cut.state_is;
}
behind_cut Memory state before mid after f fm g part said first unfailed cut =
    (subst (λ (t : List ℕ). AppendsLines before after t) (bytes_both part (said.lines)) (lines_behind before (bytes_of part) (lines_end part) first.written cut.0), cut.1 ∙ unfailed)
behind_cut WriteFault state before mid after f fm g part said first unfailed cut =
    subst (λ (t : List ℕ). FailsWithin before after f g t) (bytes_both part (said.lines)) (failure_behind before f (bytes_of part) first.written unfailed cut)

-- a run behind lines that were written
pub behind_run : {A S : Type 0} {flow : A → Going} {state : S} (result : Result A RunFault) {before mid after : Option (List ℕ)} {f fm g : ℕ} (part : List TraceLine) {said : Said S}
    → Says before mid part → fm ≡ f → Runs flow state result mid after fm g said → Runs flow state result before after f g (behind part said)
behind_run (Ok value) {before} {mid} {after} part {said} first unfailed run = record {
  ended = record {
    written = says_both first run.ended.written;
    unfailed = run.ended.unfailed ∙ unfailed;
    flow_is = run.ended.flow_is;
    state_is = run.ended.state_is;
  };
  cut_off = tt;
}
behind_run (Err fault) part {said} first unfailed run = record { ended = tt; cut_off = behind_cut fault _ _ _ _ _ _ _ part said first unfailed run.cut_off }

-- a run that was cut off, of which the steps before it and behind it are another's
pub cut_as : {A B S R : Type 0} {flow : A → Going} {state : S} {flow' : B → Going} {state' : R} (fault : RunFault) {before after : Option (List ℕ)} {f g : ℕ} {said : Said S} {other : Said R}
    → said.lines ≡ other.lines → (said.flow ≡ Limited → other.flow ≡ Limited) → (said.state ≡ state → other.state ≡ state')
    → Runs flow state (Err fault) before after f g said → Runs flow' state' (Err fault) before after f g other
cut_as (Limit kind line number) lines limited reached run = record {
  ended = tt;
  cut_off = record {
    lines = run.cut_off.lines;
    last = sym lines ∙ run.cut_off.last;
    written = run.cut_off.written;
    unfailed = run.cut_off.unfailed;
    flow_is = limited run.cut_off.flow_is;
    state_is = reached run.cut_off.state_is;
  };
}
cut_as Memory {before} {after} lines limited reached run =
    record { ended = tt; cut_off = (subst (λ (l : List TraceLine). AppendsLines before after (bytes_of l)) lines run.cut_off.0, run.cut_off.1) }
cut_as WriteFault {before} {after} {f} {g} lines limited reached run =
    record { ended = tt; cut_off = subst (λ (l : List TraceLine). FailsWithin before after f g (bytes_of l)) lines run.cut_off }

-- a run that ended, answered in other words
pub ended_as : {A B S : Type 0} {flow : A → Going} {state state' : S} {flow' : B → Going} {value : A} {other : B} {before after : Option (List ℕ)} {f g : ℕ} {said : Said S}
    → flow value ≡ flow' other → state ≡ state' → Runs flow state (Ok value) before after f g said → Runs flow' state' (Ok other) before after f g said
ended_as flow_is state_is run = record {
  ended = record {
    written = run.ended.written;
    unfailed = run.ended.unfailed;
    flow_is = run.ended.flow_is ∙ flow_is;
    state_is = run.ended.state_is ∙ state_is;
  };
  cut_off = tt;
}

-- a throw that is caught
caught-goes : (flow : Flow) → caught_flow (flow_of flow) ≡ Goes
unfolding caught_flow
caught-goes Next = refl
caught-goes Thrown = refl

pub caught_ended : {B S : Type 0} {state : S} (flow : Flow) {value : B} {before after : Option (List ℕ)} {f g : ℕ} {said : Said S}
    → Runs flow_of state (Ok flow) before after f g said → Runs goes_on state (Ok value) before after f g (caught said)
unfolding caught
caught_ended flow run = record {
  ended = record {
    written = run.ended.written;
    unfailed = run.ended.unfailed;
    flow_is = ap caught_flow run.ended.flow_is ∙ caught-goes flow;
    state_is = run.ended.state_is;
  };
  cut_off = tt;
}

caught-limited : caught_flow Limited ≡ Limited
unfolding caught_flow
caught-limited = refl

pub caught_cut : {A B S : Type 0} {flow : A → Going} {state : S} {flow' : B → Going} (fault : RunFault) {before after : Option (List ℕ)} {f g : ℕ} {said : Said S}
    → Runs flow state (Err fault) before after f g said → Runs flow' state (Err fault) before after f g (caught said)
unfolding caught
caught_cut fault {said = said} run = cut_as fault {other = caught said} refl (λ limited. ap caught_flow limited ∙ caught-limited) (λ reached. reached) run

-- the same run of another state
pub lifted_run : {A S R : Type 0} {flow : A → Going} {state : S} (change : S → R) (result : Result A RunFault) {before after : Option (List ℕ)} {f g : ℕ} {said : Said S}
    → Runs flow state result before after f g said → Runs flow (change state) result before after f g (lifted change said)
lifted_run change (Ok value) run = record {
  ended = record { written = run.ended.written; unfailed = run.ended.unfailed; flow_is = run.ended.flow_is; state_is = ap change run.ended.state_is };
  cut_off = tt;
}
lifted_run change (Err fault) {said = said} run = cut_as fault {other = lifted change said} refl (λ limited. limited) (λ reached. ap change reached) run

-- a step under a test
pub only_if_true : {S : Type 0} (step : S → Said S) (state : S) {test : Bool} → test ≡ true → only_if step state test ≡ step state
only_if_true step state holds = ap (only_if step state) holds

pub only_if_false : {S : Type 0} (step : S → Said S) (state : S) {test : Bool} → test ≡ false → only_if step state test ≡ silent state
only_if_false step state fails = ap (only_if step state) fails

-- what a run of lines alone wrote; no limit is met there
pub wrote_run : {A S : Type 0} {state : S} (result : Result A RunFault) {before after : Option (List ℕ)} {f g : ℕ} {lines : List TraceLine} {now : S}
    → Runs goes_on state result before after f g (say lines now) → Told result before after f g lines
wrote_run (Ok value) run = (run.ended.written, run.ended.unfailed)
wrote_run (Err (Limit kind line number)) run = absurd (goes≢limited run.cut_off.flow_is)
wrote_run (Err Memory) run = run.cut_off
wrote_run (Err WriteFault) run = run.cut_off
