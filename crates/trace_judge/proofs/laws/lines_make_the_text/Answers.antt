use Rattle.trace_judge.proofs.Splits.{lines_make}
use Rattle.trace_judge.proofs.laws.lines_make_the_text.Goals as goal

pub returns : goal.returns
returns c = lines_make
