use Rattle.std.proofs.Common.{◌∙◌, subst, sym}
use Rattle.recorded_source.specs.Recorded.{Divided, Divides}
use Rattle.recorded_source.proofs.Pieces.{line_ends, line_is_long, on_ok, trace_is_begun}
use Rattle.recorded_source.proofs.recorded.RecordedText.settle_line.Goals as goal

pub returns-then-is_divider-clause-divides : goal.returns-then-is_divider-clause-divides
returns-then-is_divider-clause-divides c =
    λ bytes here. subst (λ (it : Divided). Divides bytes it) (sym c.begin_trace.ensures)
    (trace_is_begun bytes _ here c.requires.place c.requires.line (sym c.is_ended.ensures ∙ c.if-is_ended.true) (sym c.is_divider.ensures ∙ c.if-is_divider.true))

pub returns-else-is_divider-clause-divides : goal.returns-else-is_divider-clause-divides
returns-else-is_divider-clause-divides c =
    λ bytes here. on_ok c.give_to_script.result c.give_to_script.ensures (λ is. subst (λ (it : Divided). Divides bytes it) (sym is)
    (line_ends bytes _ here c.requires.place c.requires.line (sym c.is_ended.ensures ∙ c.if-is_ended.true) (sym c.is_divider.ensures ∙ c.if-is_divider.false)))

pub returns-then-is_long-clause-divides : goal.returns-then-is_long-clause-divides
returns-then-is_long-clause-divides c =
    λ bytes here. on_ok c.give_to_script-then-is_long.result c.give_to_script-then-is_long.ensures (λ is. subst (λ (it : Divided). Divides bytes it) (sym is)
    (line_is_long bytes _ here c.requires.place (sym c.is_ended.ensures ∙ c.if-is_ended.false) (c.is_long.ensures c.if-is_long.true)))
