use Rattle.std.proofs.Common.{◌<◌, ◌≤◌, ap, length, arith, rules}
use Rattle.trace_summary.proofs.Rows.{writing_none}
use Rattle.text_lines.proofs.Splits.{behind_shorter}
use Rattle.run_replies.proofs.Written.{line_written, line_failed, lines_written}
use Rattle.run_replies.proofs.lines.write_lines.Goals as goal

pub loop-rest-init : goal.loop-rest-init
loop-rest-init g c = writing_none _ _ _

pub loop-rest-smaller : goal.loop-rest-smaller
loop-rest-smaller g c =
    let some : 0 < length c.loop-rest.rest.now = search rules in
    let shorter = behind_shorter c.loop-rest.rest.now some in
    omega (arith, ap length c.split_line.ensures.rest)

pub loop-rest-preserved : goal.loop-rest-preserved
loop-rest-preserved g c =
    line_written _ _ _ c.split_line.ensures.line c.split_line.ensures.rest c.loop-rest.invariant c.in-Ok.ensures.whole c.in-Ok.ensures.only_by_failing

pub returns-clause-tells : goal.returns-clause-tells
returns-clause-tells g c =
    let none : length c.loop-rest.rest.now ≤ 0 = search rules in
    lines_written _ _ _ _ _ _ none c.loop-rest.invariant

pub returns-in-Err-clause-tells : goal.returns-in-Err-clause-tells
returns-in-Err-clause-tells g c =
    line_failed _ _ _ _ _ _ _ _ _ _ c.split_line.ensures.line c.split_line.ensures.rest c.loop-rest.invariant c.in-Err.ensures.part c.in-Err.ensures.failed
