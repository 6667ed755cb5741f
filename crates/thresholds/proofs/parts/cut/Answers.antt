use Rattle.thresholds.proofs.Cuts.{cut_halves}
use Rattle.thresholds.proofs.parts.cut.Goals as goal

pub returns : goal.returns
returns c = cut_halves _ _ _ _ c.front_length-place.ensures.count c.if-place-text.false c.split_at.ensures.front c.split_at.ensures.back
