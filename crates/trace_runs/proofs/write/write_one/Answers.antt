use Rattle.std.proofs.Common.{rules}
use Rattle.trace_runs.proofs.Lines.{told_one}
use Rattle.trace_runs.proofs.write.write_one.Goals as goal

pub returns-clause-told : goal.returns-clause-told
returns-clause-told g c = told_one c.write_text.result _ _ _ _ _ c.value_is_a_line.ensures (search rules)
