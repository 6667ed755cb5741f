use Rattle.std.proofs.Common.{length}
use Rattle.trace_judge.proofs.Judged.{Judging}
use Rattle.trace_judge.proofs.comparison.judge.Given as goal

-- so many lines were equal, and the rests are left
abbrev pub invariant-lines : goal.invariant-lines
invariant-lines l = Judging l.expected l.recorded l.expected_rest l.recorded_rest l.lines

abbrev pub decreases-lines : goal.decreases-lines
decreases-lines l = length l.expected_rest
