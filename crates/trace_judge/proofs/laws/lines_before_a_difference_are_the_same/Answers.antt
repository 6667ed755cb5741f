use Rattle.trace_judge.proofs.Judged.{first_differs}
use Rattle.trace_judge.proofs.laws.lines_before_a_difference_are_the_same.Goals as goal

pub returns : goal.returns
returns c = first_differs
