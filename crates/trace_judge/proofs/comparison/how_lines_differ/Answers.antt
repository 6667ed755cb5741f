use Rattle.std.proofs.Common.{◌+◌, ◌≡◌, ◌∙◌, refl, ap, cond, arith, nat_eq}
use Rattle.std.proofs.lemmas.List.Sums.{common_prefix_len-le}
use Rattle.trace_judge.specs.declared.judgement.How.TheVariants.{NotALine, Text}
use Rattle.trace_judge.specs.Judging.{how_lines_differ, column_of}
use Rattle.trace_judge.proofs.comparison.how_lines_differ.Goals as goal

pub overflow_cast-result : goal.overflow_cast-result
overflow_cast-result c =
    let short = c.if-is_trace_line.ensures.short refl in
    let within = (common_prefix_len-le nat_eq c.args.expected.now c.args.recorded.now).1 in
    omega (arith, c.common_bytes.ensures)

pub overflow_add-result : goal.overflow_add-result
overflow_add-result c =
    let short = c.if-is_trace_line.ensures.short refl in
    let within = (common_prefix_len-le nat_eq c.args.expected.now c.args.recorded.now).1 in
    omega (arith, c.common_bytes.ensures)

pub returns-then-is_trace_line : goal.returns-then-is_trace_line
unfolding how_lines_differ
returns-then-is_trace_line c =
    let same : c.common_bytes.result + 1 ≡ column_of c.args.expected.now c.args.recorded.now = omega (arith, c.common_bytes.ensures) in
    ap Text same ∙ ap (λ test. cond test (Text (column_of c.args.expected.now c.args.recorded.now)) NotALine) c.if-is_trace_line.ensures.answer

pub returns-else-is_trace_line : goal.returns-else-is_trace_line
unfolding how_lines_differ
returns-else-is_trace_line c =
    ap (λ test. cond test (Text (column_of c.args.expected.now c.args.recorded.now)) NotALine) c.if-is_trace_line.ensures.answer
