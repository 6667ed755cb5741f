use Rattle.std.proofs.Common.{refl}
use Rattle.trace_runs.proofs.Runs.{run_same, silent_run}
use Rattle.handlers.proofs.Handlers.{no_handler}
use Rattle.handlers.proofs.handler.run_named.Goals as goal

pub returns-in-None-clause-says : goal.returns-in-None-clause-says
returns-in-None-clause-says g c = run_same (no_handler _ _ _ _ c.in-None.is) (silent_run refl)
