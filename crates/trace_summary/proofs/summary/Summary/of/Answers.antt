use Rattle.std.proofs.Common.{◌∙◌, ◌^◌, ◌<◌, ap, sym, subst, length, arith, rules}
use Rattle.trace_summary.specs.declared.summary.Summary.{Summary}
use Rattle.trace_summary.proofs.Counting.{none_counted}
use Rattle.text_lines.proofs.Splits.{behind_shorter}
use Rattle.trace_summary.proofs.Traces.{Counted, counted_none, counted_more, counted_room, no_trace}
use Rattle.trace_summary.proofs.summary.Summary.of.Goals as goal

pub loop-rest-init : goal.loop-rest-init
loop-rest-init c = counted_none c.args.trace.now _ none_counted

pub count-requires : goal.count-requires
count-requires c =
    let some : 0 < length c.loop-rest.rest.now = search rules in
    let long : length c.args.trace.now < 2 ^ 64 = search rules in
    counted_room c.line_ends_once.ensures c.loop-rest.invariant some long

pub returns-in-Err-clause-err : goal.returns-in-Err-clause-err
returns-in-Err-clause-err c =
    let some : 0 < length c.loop-rest.rest.now = search rules in
    no_trace c.line_ends_once.ensures c.loop-rest.invariant some (λ line is same. c.in-Err.ensures.err line is (same ∙ sym c.split_line.ensures.line))

pub loop-rest-smaller : goal.loop-rest-smaller
loop-rest-smaller c =
    let some : 0 < length c.loop-rest.rest.now = search rules in
    let shorter = behind_shorter c.loop-rest.rest.now some in
    omega (arith, ap length c.split_line.ensures.rest)

pub loop-rest-preserved : goal.loop-rest-preserved
loop-rest-preserved c =
    let counted = c.in_default.ensures.ok in
    subst (λ (summary : Summary). Counted c.args.trace.now c.split_line.result.1.now summary) (sym counted.3)
    (counted_more c.line_ends_once.ensures counted.0 counted.1 (counted.2 ∙ c.split_line.ensures.line) c.split_line.ensures.rest c.loop-rest.invariant)
