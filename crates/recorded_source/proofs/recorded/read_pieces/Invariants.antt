-- What the source gave was taken, and no read failed.
use Rattle.std.proofs.Common.{◌-◌}
use Rattle.recorded_source.proofs.Feeding.{Taking}
use Rattle.recorded_source.proofs.recorded.read_pieces.Given as goal

abbrev pub invariant-pieces : goal.invariant-pieces
invariant-pieces g l =
    Taking (g.S.Source.left l.fn.source) (g.S.Source.left l.source) (g.S.Source.faults l.fn.source) (g.S.Source.faults l.source) l.it

abbrev pub decreases-pieces : goal.decreases-pieces
decreases-pieces g l = 67108865 - l.it.bytes
