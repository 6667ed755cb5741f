use Rattle.std.proofs.Common.{length}
use Rattle.recorded_source.proofs.Pieces.{FedTo}
use Rattle.recorded_source.proofs.recorded.RecordedText.feed.Given as goal

-- the lines of the piece before the rest were taken
abbrev pub invariant-lines : goal.invariant-lines
invariant-lines l = FedTo l.fn.self l.self l.piece l.rest

abbrev pub decreases-lines : goal.decreases-lines
decreases-lines l = length l.rest
