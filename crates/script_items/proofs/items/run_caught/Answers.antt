use Rattle.trace_runs.proofs.Runs.{caught_cut, caught_ended}
use Rattle.script_items.proofs.Stopped.{stopped_run}
use Rattle.script_items.proofs.items.run_caught.Goals as goal

pub returns-in_err-run_command-clause-says : goal.returns-in_err-run_command-clause-says
returns-in_err-run_command-clause-says g c =
    stopped_run c.from_residual.result c.in_err-run_command.field-0.0 c.from_residual.ensures (caught_cut c.in_err-run_command.field-0.0 c.in_err-run_command.ensures.says)

pub returns-clause-says : goal.returns-clause-says
returns-clause-says g c = caught_ended _ c.in_ok-run_command.ensures.says
