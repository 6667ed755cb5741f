use Rattle.std.proofs.Common.{◌∙◌, ◌<◌, ◌≤◌, sym, ap, length, arith, rules}
use Rattle.text_lines.proofs.Splits.{behind_shorter}
use Rattle.trace_judge.proofs.Judged.{left_some, judged_equal, judged_other, lines_differ, lines_agree, judging_more}
use Rattle.trace_judge.proofs.comparison.judge.Goals as goal

pub returns-then-ne : goal.returns-then-ne
returns-then-ne c =
    let how = c.how_first_lines_differ in
    judged_other how.result c.lines.invariant c.split_line.ensures.line c.split_line-in-lines.ensures.line (lines_differ _ _ c.if-ne.ensures) how.ensures.extra how.ensures.missing how.ensures.other

pub returns-then-is_empty : goal.returns-then-is_empty
returns-then-is_empty c =
    let same = sym c.split_line.ensures.line ∙ lines_agree _ _ c.if-ne.ensures ∙ c.split_line-in-lines.ensures.line in
    let none : length c.split_line.result.0.now ≤ 0 = search rules in
    judged_equal c.lines.invariant same (omega (arith, ap length c.split_line.ensures.line))

pub lines-smaller : goal.lines-smaller
lines-smaller c =
    let some : 0 < length c.split_line.result.0.now = search rules in
    let left = left_some c.lines.expected_rest.now (omega (arith, ap length c.split_line.ensures.line)) in
    omega (arith, behind_shorter c.lines.expected_rest.now left, ap length c.split_line.ensures.rest)

pub lines-preserved : goal.lines-preserved
lines-preserved c =
    let same = sym c.split_line.ensures.line ∙ lines_agree _ _ c.if-ne.ensures ∙ c.split_line-in-lines.ensures.line in
    let some : 0 < length c.split_line.result.0.now = search rules in
    judging_more c.lines.invariant same (omega (arith, ap length c.split_line.ensures.line)) c.split_line.ensures.rest c.split_line-in-lines.ensures.rest
