use Rattle.std.proofs.Common.{ℕ, List, arith, subst}
use Rattle.std.specs.Prelude.{Ok, Err}
use Rattle.trace_runs.specs.Writes.{Wrote}
use Rattle.trace_summary.proofs.Rows.{rows_none, rows_more, row_cut, rows_written, first_rows}
use Rattle.trace_summary.proofs.summary.Summary.write_to.Goals as goal

pub loop-row-init : goal.loop-row-init
loop-row-init g c = rows_none _ _ _

pub loop-row-preserved : goal.loop-row-preserved
loop-row-preserved g c = rows_more c.rows-rows.result c.loop-row.row-index _ (omega arith) c.loop-row.invariant c.in_default.ensures.wrote

pub returns-in-Err-clause-wrote : goal.returns-in-Err-clause-wrote
returns-in-Err-clause-wrote g c =
    subst (λ (text : List ℕ). Wrote {A = Unit {0}} (Err c.in-Err.fault) (g.K.Sink.taken c.args.sink.now) (g.K.Sink.taken c.write_row.new.sink) (g.K.Sink.faults c.args.sink.now)
    (g.K.Sink.faults c.write_row.new.sink) text) c.rows-rows.ensures.text
    (row_cut c.in-Err.fault _ _ _ _ _ _ c.rows-rows.result c.loop-row.row-index _ (omega arith) c.loop-row.invariant c.in-Err.ensures.wrote)

-- for want of memory the row that is next isn't begun
pub returns-in-Err-clause-whole_rows : goal.returns-in-Err-clause-whole_rows
returns-in-Err-clause-whole_rows g c = λ is. (
  c.loop-row.row-index,
  rw (c.in-Err.ensures.memory is) (first_rows _ _ c.rows-rows.result c.loop-row.row-index _ c.rows-rows.ensures.rows c.loop-row.invariant.written),
)

pub returns-clause-wrote : goal.returns-clause-wrote
returns-clause-wrote g c =
    subst (λ (text : List ℕ). Wrote {A = Unit {0}} (Ok tt) (g.K.Sink.taken c.args.sink.now) (g.K.Sink.taken c.loop-row.sink) (g.K.Sink.faults c.args.sink.now) (g.K.Sink.faults c.loop-row.sink)
    text) c.rows-rows.ensures.text (rows_written c.rows-rows.result c.loop-row.row-index (omega arith) c.loop-row.invariant)
