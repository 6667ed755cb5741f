use Rattle.std.proofs.Common.{length}
use Rattle.stream_replay.proofs.NamedLines.{Naming}
use Rattle.stream_replay.specs.NamedTexts.{named_lines}
use Rattle.stream_replay.proofs.named.write_named.Given as goal

-- the lines so far were written, and the rest is left
abbrev pub invariant-loop-rest : goal.invariant-loop-rest
invariant-loop-rest g l =
    Naming (g.K.Sink.taken l.fn.sink) (g.K.Sink.taken l.sink) (g.K.Sink.faults l.fn.sink) (g.K.Sink.faults l.sink) (named_lines l.name l.trace) l.name l.rest

abbrev pub decreases-loop-rest : goal.decreases-loop-rest
decreases-loop-rest g l = length l.rest
