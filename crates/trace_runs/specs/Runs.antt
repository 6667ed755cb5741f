-- What a run, as it is defined, writes to a sink that may fail, and the state that it leaves. If it came to its end, all its lines are
-- written, and if it met a limit, all but the limit's own; the state is then the one that the definition gives. If memory was refused, the
-- first lines are written, each whole, and if a write failed, a first part of the text; nothing is said of the state then. This project's
-- own choice.
use Rattle.std.specs.Prelude.{◌≡◌, ℕ, List, [], ◌∷◌, ◌++◌, Option, Result, IfOk, IfErr}
use Rattle.text_io.specs.declared.kinds.LimitKind.{LimitKind}
use Rattle.script_model.specs.TraceLines.{TraceLine, LimitLine}
use Rattle.page_model.specs.Outcome.{bytes_of}
use Rattle.page_model.specs.Runs.{Said, Flow, Limited}
use Rattle.trace_runs.specs.declared.faults.RunFault.{RunFault}
use Rattle.trace_runs.specs.declared.faults.RunFault.TheVariants.{Limit, Memory, WriteFault}
use Rattle.trace_runs.specs.Writes.{AppendsLines, FailsWithin, Says}

-- every line was written, no write failed, and the run has this flow and this state
pub record Ended {S : Type 0} (flow : Flow) (state : S) (before after : Option (List ℕ)) (faults faults_after : ℕ) (said : Said S) : Type 0 where
  pub written : Says before after (said.lines)
  pub unfailed : faults_after ≡ faults
  pub flow_is : said.flow ≡ flow
  pub state_is : said.state ≡ state

-- the command on a line met a limit of this number: every line except that of the limit was written, no write failed, and the state is
-- this one
pub record MeetsLimit {S : Type 0} (kind : LimitKind) (line number : ℕ) (state : S) (before after : Option (List ℕ)) (faults faults_after : ℕ) (said : Said S) : Type 0 where
  pub lines : List TraceLine
  pub last : said.lines ≡ lines ++ LimitLine kind line number ∷ []
  pub written : Says before after lines
  pub unfailed : faults_after ≡ faults
  pub flow_is : said.flow ≡ Limited
  pub state_is : said.state ≡ state

-- why a run was cut off, and how much of it was written; at a limit also the state
abbrev pub CutOff : {S : Type 0} → RunFault → S → Option (List ℕ) → Option (List ℕ) → ℕ → ℕ → Said S → Type 0
CutOff (Limit kind line number) state before after faults faults_after said = MeetsLimit kind line number state before after faults faults_after said
CutOff Memory state before after faults faults_after said = AppendsLines before after (bytes_of said.lines) × (faults_after ≡ faults)
CutOff WriteFault state before after faults faults_after said = FailsWithin before after faults faults_after (bytes_of said.lines)

-- a run to its end or to where it was cut off, and the state that it left. The value that is returned gives its flow
pub record Runs {A S : Type 0} (flow : A → Flow) (state : S) (result : Result A RunFault) (before after : Option (List ℕ)) (faults faults_after : ℕ) (said : Said S)
    : Type 0 where
  pub ended : IfOk result (λ value. Ended (flow value) state before after faults faults_after said)
  pub cut_off : IfErr result (λ fault. CutOff fault state before after faults faults_after said)
