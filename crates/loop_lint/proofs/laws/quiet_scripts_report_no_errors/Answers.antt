-- By the laws of loops that come to rest and of their errors.
use Rattle.loop_lint.proofs.Quiet.{quiet-lines, quiet-outcome}
use Rattle.loop_lint.proofs.laws.quiet_scripts_report_no_errors.Goals as goal

pub returns : goal.returns
returns c = λ text script is quiet. quiet-outcome text script is (quiet-lines (script.items) quiet (script.version))
