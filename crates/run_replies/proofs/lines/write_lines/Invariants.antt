use Rattle.std.proofs.Common.{length}
use Rattle.trace_summary.proofs.Rows.{Writing}
use Rattle.run_replies.proofs.lines.write_lines.Given as goal

-- the lines so far were written, and the rest is left
abbrev pub invariant-loop-rest : goal.invariant-loop-rest
invariant-loop-rest g l = Writing (g.K.Sink.taken l.fn.sink) (g.K.Sink.taken l.sink) (g.K.Sink.faults l.fn.sink) (g.K.Sink.faults l.sink) l.text l.rest

abbrev pub decreases-loop-rest : goal.decreases-loop-rest
decreases-loop-rest g l = length l.rest
