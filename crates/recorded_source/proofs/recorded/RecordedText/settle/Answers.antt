use Rattle.std.proofs.Common.{subst, sym}
use Rattle.recorded_source.specs.Recorded.{Divided, Divides}
use Rattle.recorded_source.proofs.Pieces.{on_ok, trace_goes_on}
use Rattle.recorded_source.proofs.recorded.RecordedText.settle.Goals as goal

pub returns-in-Trace-clause-divides : goal.returns-in-Trace-clause-divides
returns-in-Trace-clause-divides c =
    λ bytes here. on_ok c.give_to_trace.result c.give_to_trace.ensures (λ is. subst (λ (it : Divided). Divides bytes it) (sym is)
    (trace_goes_on bytes _ here (sym c.in-Trace.ensures)))
