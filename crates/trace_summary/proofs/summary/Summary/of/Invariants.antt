use Rattle.std.proofs.Common.{length}
use Rattle.trace_summary.proofs.Traces.{Counted}
use Rattle.trace_summary.proofs.summary.Summary.of.Given as goal

-- the lines so far were counted, and the rest is left
abbrev pub invariant-loop-rest : goal.invariant-loop-rest
invariant-loop-rest l = Counted l.trace l.rest l.summary

abbrev pub decreases-loop-rest : goal.decreases-loop-rest
decreases-loop-rest l = length l.rest
