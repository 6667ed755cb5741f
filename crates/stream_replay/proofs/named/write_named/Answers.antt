use Rattle.std.proofs.Common.{◌<◌, ◌≤◌, ap, length, arith, rules}
use Rattle.std.specs.Prelude.{Ok, Err}
use Rattle.text_lines.proofs.Splits.{behind_shorter}
use Rattle.stream_replay.specs.NamedTexts.{named_lines}
use Rattle.stream_replay.proofs.NamedLines.{stopped, naming_none, named_more, named_cut, named_end, named_wrote}
use Rattle.stream_replay.proofs.named.write_named.Goals as goal

pub loop-rest-init : goal.loop-rest-init
loop-rest-init g c = naming_none _ _ _ _

pub loop-rest-preserved : goal.loop-rest-preserved
loop-rest-preserved g c =
    let some : 0 < length c.loop-rest.rest.now = search rules in
    named_more c.args.name.now c.loop-rest.rest.now c.loop-rest.invariant some c.split_line.ensures.line c.split_line.ensures.rest c.in_ok-write_line.ensures.0 c.in_ok-write_line.ensures.1

pub loop-rest-smaller : goal.loop-rest-smaller
loop-rest-smaller g c =
    let some : 0 < length c.loop-rest.rest.now = search rules in
    omega (arith, behind_shorter c.loop-rest.rest.now some, ap length c.split_line.ensures.rest)

pub returns-in_err-write_line-clause-text : goal.returns-in_err-write_line-clause-text
returns-in_err-write_line-clause-text g c =
    let some : 0 < length c.loop-rest.rest.now = search rules in
    stopped c.from_residual.result c.in_err-write_line.field-0.0 _ _ _ _ _ c.from_residual.ensures
    (named_cut (Unit {0}) (Unit {0}) _ _ _ _ _ _ (named_lines c.args.name.now c.args.trace.now) c.split_line.result.0.now c.in_err-write_line.field-0.0 c.args.name.now c.loop-rest.rest.now c.loop-rest.invariant some c.split_line.ensures.line c.in_err-write_line.ensures)

pub returns-in_err-write_line-clause-of_trace : goal.returns-in_err-write_line-clause-of_trace
returns-in_err-write_line-clause-of_trace g c = λ lines is.
    let some : 0 < length c.loop-rest.rest.now = search rules in
    stopped c.from_residual.result c.in_err-write_line.field-0.0 _ _ _ _ _ c.from_residual.ensures
    (named_wrote {A = Unit {0}} (Err c.in_err-write_line.field-0.0) c.args.name.now c.args.trace.now lines _ _ _ _ c.line_ends_once.ensures is
    (named_cut (Unit {0}) (Unit {0}) _ _ _ _ _ _ (named_lines c.args.name.now c.args.trace.now) c.split_line.result.0.now c.in_err-write_line.field-0.0 c.args.name.now c.loop-rest.rest.now c.loop-rest.invariant some c.split_line.ensures.line c.in_err-write_line.ensures))

pub returns-clause-text : goal.returns-clause-text
returns-clause-text g c =
    let none : length c.loop-rest.rest.now ≤ 0 = search rules in named_end (tt {0}) c.args.name.now c.loop-rest.rest.now c.loop-rest.invariant none

pub returns-clause-of_trace : goal.returns-clause-of_trace
returns-clause-of_trace g c = λ lines is.
    let none : length c.loop-rest.rest.now ≤ 0 = search rules in
    named_wrote {A = Unit {0}} (Ok (tt {0})) c.args.name.now c.args.trace.now lines _ _ _ _ c.line_ends_once.ensures is (named_end (tt {0}) c.args.name.now c.loop-rest.rest.now c.loop-rest.invariant none)
