use Rattle.std.proofs.Common.{◌≡◌, ◌++◌, subst, sym}
use Rattle.text_lines.specs.Lines.{first_line}
use Rattle.recorded_source.specs.Recorded.{Divided, Divides}
use Rattle.recorded_source.proofs.Pieces.{joined, part_held}
use Rattle.recorded_source.proofs.recorded.RecordedText.feed_part.Goals as goal

pub settle-requires : goal.settle-requires
settle-requires c = subst (λ (it : Divided). first_line it.begun ≡ it.begun) (sym c.in_ok-hold.ensures) (joined _ _ c.requires.held c.requires.line)

pub returns-clause-divides : goal.returns-clause-divides
returns-clause-divides c =
    λ bytes here. c.settle.ensures.divides (bytes ++ c.args.part.now)
    (subst (λ (it : Divided). Divides (bytes ++ c.args.part.now) it) (sym c.in_ok-hold.ensures) (part_held bytes _ here c.args.part.now))
