use Rattle.trace_judge.proofs.Judged.{equal_same, same_equal}
use Rattle.trace_judge.proofs.laws.equal_exactly_where_the_same.Goals as goal

pub returns : goal.returns
returns c = λ expected recorded lines. (equal_same expected recorded lines, same_equal expected recorded lines)
