use Rattle.std.proofs.Common.{refl}
use Rattle.trace_summary.specs.Counts.{rows_text}
use Rattle.trace_summary.proofs.summary.Summary.rows.Goals as goal

pub returns-clause-rows : goal.returns-clause-rows
returns-clause-rows c = refl

pub returns-clause-text : goal.returns-clause-text
unfolding rows_text
returns-clause-text c = refl
