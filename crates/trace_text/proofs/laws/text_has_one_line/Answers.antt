use Rattle.trace_text.proofs.Whole.{one_line}
use Rattle.trace_text.proofs.laws.text_has_one_line.Goals as goal

pub returns : goal.returns
returns c = one_line
