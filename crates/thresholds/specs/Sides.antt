-- Margins are determined by what they stand for: converted there and back they are the same.
use Rattle.std.specs.Prelude.{◌≡◌, refl}
use Rattle.std.proofs.Common.{ap, ◌∙◌}
use Rattle.thresholds.specs.declared.parts.Part.{Part}
use Rattle.thresholds.specs.declared.parts.Part.TheVariants.{Pixels, Percentage}
use Rattle.thresholds.specs.declared.margins.Margins.TheInside.{Inside}
use Rattle.thresholds.specs.Parts.{seen_part, part_for}

pub part_again : (part : Part) → part_for (seen_part part) ≡ part
part_again (Pixels px) = refl
part_again (Percentage percent) = refl

pub made_again : (m : Inside) → record { top = part_for (seen_part m.top); right = part_for (seen_part m.right); bottom = part_for (seen_part m.bottom); left = part_for (seen_part m.left) } ≡ m
made_again m =
    ap (λ (p : Part). record m { top = p; right = part_for (seen_part m.right); bottom = part_for (seen_part m.bottom); left = part_for (seen_part m.left) }) (part_again m.top)
    ∙ ap (λ (p : Part). record m { right = p; bottom = part_for (seen_part m.bottom); left = part_for (seen_part m.left) }) (part_again m.right)
    ∙ ap (λ (p : Part). record m { bottom = p; left = part_for (seen_part m.left) }) (part_again m.bottom)
    ∙ ap (λ (p : Part). record m { left = p }) (part_again m.left)
