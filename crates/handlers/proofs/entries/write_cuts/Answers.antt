use Rattle.std.proofs.Common.{ap, arith, refl, subst, sym}
use Rattle.std.specs.Prelude.{Ok, Err}
use Rattle.page_model.specs.Runs.{say}
use Rattle.trace_text.specs.Ranges.{HasReach}
use Rattle.trace_runs.proofs.Following.{begin, rest_same, go_on_said, end_unsaid, done, lines_more, lines_none}
use Rattle.trace_runs.proofs.Runs.{wrote_run}
use Rattle.handlers.proofs.Telling.{cut_lines, line_reaches, written_at}
use Rattle.handlers.proofs.entries.write_cuts.Goals as goal

pub loop-entry-init : goal.loop-entry-init
loop-entry-init g c = rest_same (ap (λ lines. say lines (tt {0})) (cut_lines _ c.args.observer.0 c.args.entries.now)) begin

pub intersection_line-line-requires-clause-written : goal.intersection_line-line-requires-clause-written
intersection_line-line-requires-clause-written g c =
    written_at _ c.args.entries.now c.loop-entry.entry-index _ c.requires.written (omega arith) c.entry-item.is

pub write_one-requires : goal.write_one-requires
write_one-requires g c =
    subst HasReach (sym c.intersection_line-line.ensures)
    (line_reaches _ c.args.observer.0 _ _
    (written_at _ c.args.entries.now c.loop-entry.entry-index _ c.requires.written (omega arith) c.entry-item.is))

pub returns-in-Err : goal.returns-in-Err
returns-in-Err g c =
    wrote_run {A = Unit {0}} {state = tt {0}} (Err c.in-Err.fault)
    (end_unsaid c.in-Err.fault _ _ _
    (rest_same
    (lines_more _ c.args.entries.now c.loop-entry.entry-index _ _ _ (omega arith) c.entry-item.is c.intersection_line-line.ensures)
    c.loop-entry.invariant)
    c.in-Err.ensures.told)

pub loop-entry-preserved : goal.loop-entry-preserved
loop-entry-preserved g c =
    go_on_said _ _ _
    (rest_same
    (lines_more _ c.args.entries.now c.loop-entry.entry-index _ _ _ (omega arith) c.entry-item.is c.intersection_line-line.ensures)
    c.loop-entry.invariant)
    c.in_default.ensures.told.0 c.in_default.ensures.told.1

pub returns : goal.returns
returns g c =
    wrote_run {A = Unit {0}} {state = tt {0}} (Ok (tt {0})) (done refl (rest_same (lines_none _ c.args.entries.now c.loop-entry.entry-index _ (omega arith)) c.loop-entry.invariant))
