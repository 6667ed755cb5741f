use Rattle.std.proofs.Common.{rules}
use Rattle.std.proofs.lemmas.Int.{ints}
use Rattle.px_units.proofs.Edges.{same_rect}
use Rattle.px_units.proofs.rects.overlap.Goals as goal

pub returns : goal.returns
returns c = same_rect (search (rules, ints)) (search rules) (search rules) (search rules)
