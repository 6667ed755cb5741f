use Rattle.std.proofs.Common.{subst, sym}
use Rattle.recorded_source.specs.Recorded.{Divided, IsDivided}
use Rattle.recorded_source.proofs.Pieces.{ends_in_trace, ends_within, on_ok}
use Rattle.recorded_source.proofs.recorded.RecordedText.end.Goals as goal

pub returns-in-WithinLine : goal.returns-in-WithinLine
returns-in-WithinLine c =
    λ bytes here. on_ok c.give_to_script.result c.give_to_script.ensures (λ is. subst (λ (it : Divided). IsDivided bytes it) (sym is)
    (ends_within bytes _ here (sym c.in-WithinLine.ensures) c.requires))

pub returns-in-Trace : goal.returns-in-Trace
returns-in-Trace c =
    λ bytes here. on_ok c.give_to_trace.result c.give_to_trace.ensures (λ is. subst (λ (it : Divided). IsDivided bytes it) (sym is)
    (ends_in_trace bytes _ here (sym c.in-Trace.ensures)))
