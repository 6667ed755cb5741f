use Rattle.std.proofs.Common.{◌∙◌, sym}
use Rattle.trace_summary.proofs.Traces.{one_trace}
use Rattle.trace_summary.proofs.laws.a_text_has_one_trace.Goals as goal

pub returns : goal.returns
returns c = λ text a b is other. one_trace c.line_ends_once.ensures c.text_has_one_line.ensures a b is.fit other.fit (is.makes ∙ sym other.makes)
