use Rattle.std.proofs.Common.{◌∙◌, ◌++◌, ap, subst, sym}
use Rattle.recorded_source.specs.Recorded.{Divided, Divides}
use Rattle.recorded_source.proofs.Pieces.{on_ok, part_held, trace_goes_on}
use Rattle.recorded_source.proofs.recorded.RecordedText.feed_trace.Goals as goal

pub returns-clause-divides : goal.returns-clause-divides
returns-clause-divides c =
    λ bytes here. on_ok c.give_to_trace.result c.give_to_trace.ensures (λ is. subst (λ (it : Divided). Divides (bytes ++ c.args.part.now) it) (sym is)
    (trace_goes_on (bytes ++ c.args.part.now) c.hold.new.self
    (subst (λ (it : Divided). Divides (bytes ++ c.args.part.now) it) (sym c.in_ok-hold.ensures) (part_held bytes _ here c.args.part.now))
    (ap (λ (it : Divided). it.place) c.in_ok-hold.ensures ∙ c.requires)))
