use Rattle.trace_judge.proofs.TraceLines.{trace_line_read, trace_line_is}
use Rattle.trace_judge.proofs.laws.what_a_trace_line_is.Goals as goal

pub returns : goal.returns
returns c = λ text. (trace_line_read text, λ read. trace_line_is text read.0 read.1 read.2)
