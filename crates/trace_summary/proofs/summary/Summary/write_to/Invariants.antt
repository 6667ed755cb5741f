use Rattle.trace_summary.proofs.Rows.{WroteRows}
use Rattle.trace_summary.proofs.summary.Summary.write_to.Given as goal

-- the rows up to here were written
abbrev pub invariant-loop-row : goal.invariant-loop-row
invariant-loop-row g l =
    WroteRows (g.K.Sink.taken l.fn.sink) (g.K.Sink.taken l.sink) (g.K.Sink.faults l.fn.sink) (g.K.Sink.faults l.sink) l.row-items l.row-index
