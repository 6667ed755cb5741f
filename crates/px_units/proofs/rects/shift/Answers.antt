use Rattle.std.proofs.Common.{arith}
use Rattle.std.proofs.lemmas.Int.{ints}
use Rattle.px_units.proofs.Edges.{same_rect}
use Rattle.px_units.proofs.rects.shift.Goals as goal

pub returns : goal.returns
returns c = same_rect (omega (arith, ints)) (omega (arith, ints)) (omega (arith, ints)) (omega (arith, ints))
