use Rattle.std.proofs.Common.{◌∙◌, subst, sym}
use Rattle.recorded_source.specs.Recorded.{Divided, IsDivided}
use Rattle.recorded_source.proofs.Pieces.{ends_at_divider, ends_in_line, on_ok}
use Rattle.recorded_source.proofs.recorded.RecordedText.end_line.Goals as goal

pub returns-then-is_divider : goal.returns-then-is_divider
returns-then-is_divider c = λ bytes here. ends_at_divider bytes _ here c.requires.place c.requires.held (sym c.is_divider.ensures ∙ c.if-is_divider.true)

pub returns-else-is_divider : goal.returns-else-is_divider
returns-else-is_divider c =
    λ bytes here. on_ok c.give_to_script.result c.give_to_script.ensures (λ is. subst (λ (it : Divided). IsDivided bytes it) (sym is)
    (ends_in_line bytes _ here c.requires.place c.requires.held (sym c.is_divider.ensures ∙ c.if-is_divider.false)))
