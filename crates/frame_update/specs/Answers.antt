-- What is written when a tick on a line is refused.
use Rattle.std.specs.Prelude.{◌≡◌, ℕ, List, [], ◌∷◌, Option, Result, Err}
use Rattle.text_io.specs.declared.kinds.Version.{Version}
use Rattle.text_io.specs.Limits.{limit_number}
use Rattle.script_model.specs.TraceLines.{ThrowLine}
use Rattle.trace_runs.specs.declared.faults.RunFault.{RunFault}
use Rattle.trace_runs.specs.declared.faults.RunFault.TheVariants as run
use Rattle.trace_runs.specs.Writes.{Told}
use Rattle.page_state.specs.declared.answers.PageFault.{PageFault}
use Rattle.page_state.specs.declared.answers.PageFault.TheVariants.{Throw, Limit, Memory}

-- the call returned this fault and wrote nothing, and no write failed
abbrev pub IsLeft : {A : Type 0} → RunFault → Result A RunFault → Option (List ℕ) → Option (List ℕ) → ℕ → ℕ → Type 0
IsLeft fault result before after faults faults_after = (result ≡ Err fault) × (after ≡ before) × (faults_after ≡ faults)

-- for an exception its line is written, and only the tick ends. A limit ends the run: its number depends on the page's version,
-- and its line is left to the outermost call. Refused memory ends the run too
abbrev pub Refused : {A : Type 0} → Version → PageFault → ℕ → Result A RunFault → Option (List ℕ) → Option (List ℕ) → ℕ → ℕ → Type 0
Refused version (Throw kind) line result before after faults faults_after = Told result before after faults faults_after (ThrowLine line kind ∷ [])
Refused version (Limit kind) line result before after faults faults_after = IsLeft (run.Limit kind line (limit_number version kind)) result before after faults faults_after
Refused version Memory line result before after faults faults_after = IsLeft run.Memory result before after faults faults_after
