-- What is written when a call of the page by the command on a line is refused.
use Rattle.std.specs.Prelude.{ℕ, List, [], ◌∷◌, Option, Result}
use Rattle.text_io.specs.declared.kinds.Version.{Version}
use Rattle.text_io.specs.Limits.{limit_number}
use Rattle.script_model.specs.TraceLines.{ThrowLine, LimitLine}
use Rattle.page_model.specs.World.{World}
use Rattle.page_model.specs.Runs as runs
use Rattle.page_model.specs.Runs.{Said}
use Rattle.trace_runs.specs.declared.faults.Flow.{Flow}
use Rattle.trace_runs.specs.declared.faults.RunFault.{RunFault}
use Rattle.trace_runs.specs.Flows.{flow_of}
use Rattle.trace_runs.specs.Runs.{Runs}
use Rattle.page_state.specs.declared.answers.PageFault.{PageFault}
use Rattle.page_state.specs.declared.answers.PageFault.TheVariants.{Throw, Limit, Memory}

-- an exception propagates, a limit ends the run, and so does refused memory, which is no step of the definitions. The world is as
-- it was; the number of a limit depends on the version
abbrev pub Refused : Version → PageFault → ℕ → Result Flow RunFault → Option (List ℕ) → Option (List ℕ) → ℕ → ℕ → Type 0
Refused version (Throw kind) line result before after faults faults_after = (world : World) →
    Runs flow_of world result before after faults faults_after (record { lines = ThrowLine line kind ∷ []; flow = runs.Thrown; state = world })
Refused version (Limit kind) line result before after faults faults_after = (world : World) →
    Runs flow_of world result before after faults faults_after (record { lines = LimitLine kind line (limit_number version kind) ∷ []; flow = runs.Limited; state = world })
Refused version Memory line result before after faults faults_after = (world : World) (said : Said World) →
    Runs flow_of world result before after faults faults_after said
