use Rattle.trace_runs.proofs.Writes.{part_taken}
use Rattle.trace_runs.proofs.write.write_text.Goals as goal

pub returns-in-Err-clause-wrote : goal.returns-in-Err-clause-wrote
returns-in-Err-clause-wrote g c = record { part = part_taken _ _ _ c.in-Err.ensures.part; rose = c.in-Err.ensures.failed }
