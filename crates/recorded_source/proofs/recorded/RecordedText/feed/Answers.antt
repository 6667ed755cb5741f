use Rattle.std.proofs.Common.{◌<◌, ◌≤◌, ◌∙◌, ap, arith, length, rules, sym}
use Rattle.text_lines.specs.Lines.{first_line}
use Rattle.text_lines.proofs.Splits.{behind_shorter}
use Rattle.recorded_source.proofs.Pieces.{fed_all, fed_last, fed_more, fed_none, line_alone, on_ok}
use Rattle.recorded_source.proofs.recorded.RecordedText.feed.Goals as goal

pub lines-init : goal.lines-init
lines-init c = fed_none _ _ c.requires

pub lines-smaller : goal.lines-smaller
lines-smaller c =
    let some : 0 < length c.lines.rest.now = search rules in
    omega (arith, behind_shorter c.lines.rest.now some, ap length c.split_line.ensures.rest)

pub returns-then-is_behind-clause-divides : goal.returns-then-is_behind-clause-divides
returns-then-is_behind-clause-divides c = λ bytes start. on_ok c.feed_trace.result (c.feed_trace.ensures.divides _ (c.lines.invariant.divides bytes start)) (fed_last c.lines.invariant bytes)

pub feed_part-requires-clause-line : goal.feed_part-requires-clause-line
feed_part-requires-clause-line c = ap first_line c.split_line.ensures.line ∙ line_alone c.lines.rest.now ∙ sym c.split_line.ensures.line

pub lines-preserved : goal.lines-preserved
lines-preserved c =
    fed_more c.split_line.result.0.now c.split_line.result.1.now c.lines.invariant c.split_line.ensures.line c.split_line.ensures.rest c.in_ok-feed_part.ensures.divides
    c.in_ok-feed_part.ensures.held

pub returns-clause-divides : goal.returns-clause-divides
returns-clause-divides c =
    let none : length c.lines.rest.now ≤ 0 = search rules in
    λ bytes start. fed_all c.lines.invariant none bytes start
