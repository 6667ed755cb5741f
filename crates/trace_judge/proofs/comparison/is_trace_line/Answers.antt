use Rattle.std.proofs.Common.{◌∙◌, sym}
use Rattle.trace_judge.proofs.TraceLines.{answered, trace_line_short}
use Rattle.trace_judge.proofs.comparison.is_trace_line.Goals as goal

pub returns-clause-answer : goal.returns-clause-answer
returns-clause-answer c =
    c.is_ok.ensures.value ∙ answered c.args.line.now c.read_line.result c.read_line.ensures.ok c.read_line.ensures.range c.read_line.ensures.err

pub returns-clause-short : goal.returns-clause-short
returns-clause-short c = λ is.
    trace_line_short c.args.line.now
    (sym (c.is_ok.ensures.value ∙ answered c.args.line.now c.read_line.result c.read_line.ensures.ok c.read_line.ensures.range c.read_line.ensures.err) ∙ is)
