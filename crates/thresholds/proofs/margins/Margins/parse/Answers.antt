use Rattle.thresholds.proofs.Reading.{no_text}
use Rattle.thresholds.proofs.margins.Margins.parse.Goals as goal

pub returns-then-is_empty-clause-ok : goal.returns-then-is_empty-clause-ok
returns-then-is_empty-clause-ok c = no_text _ _ _ c.is_empty.ensures c.if-is_empty.true c.sides.ensures
