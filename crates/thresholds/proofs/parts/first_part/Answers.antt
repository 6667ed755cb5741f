use Rattle.thresholds.proofs.Reading.{part_read}
use Rattle.thresholds.proofs.parts.first_part.Goals as goal

pub returns-in-Some-clause-value : goal.returns-in-Some-clause-value
returns-in-Some-clause-value c = part_read _ _ _ _ c.cut.ensures c.in-Some.ensures.value
