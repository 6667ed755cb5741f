use Rattle.std.proofs.Common.{arith}
use Rattle.std.proofs.lemmas.Int.{ints}
use Rattle.page_geometry.proofs.Boxes.{rect_is}
use Rattle.page_geometry.proofs.readings.rect_at.Goals as goal

pub returns-clause-value : goal.returns-clause-value
returns-clause-value c = rect_is _ _ _ _ _ _ _ _ (omega (arith, ints)) (omega (arith, ints)) (omega (arith, ints)) (omega (arith, ints))
