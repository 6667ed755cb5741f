use Rattle.std.proofs.Common.{◌∙◌, subst, sym}
use Rattle.recorded_source.specs.Recorded.{Divided, Divides}
use Rattle.recorded_source.proofs.Pieces.{on_ok, within_ends, within_goes_on}
use Rattle.recorded_source.proofs.recorded.RecordedText.settle_within.Goals as goal

pub returns-then-is_ended-clause-divides : goal.returns-then-is_ended-clause-divides
returns-then-is_ended-clause-divides c =
    λ bytes here. on_ok c.give_to_script.result c.give_to_script.ensures (λ is. subst (λ (it : Divided). Divides bytes it) (sym is)
    (within_ends bytes _ here c.requires.place c.requires.line (sym c.is_ended.ensures ∙ c.if-is_ended.true)))

pub returns-else-is_ended-clause-divides : goal.returns-else-is_ended-clause-divides
returns-else-is_ended-clause-divides c =
    λ bytes here. on_ok c.give_to_script-else-is_ended.result c.give_to_script-else-is_ended.ensures (λ is. subst (λ (it : Divided). Divides bytes it) (sym is)
    (within_goes_on bytes _ here c.requires.place (sym c.is_ended.ensures ∙ c.if-is_ended.false)))
