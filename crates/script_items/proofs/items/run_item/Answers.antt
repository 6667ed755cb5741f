use Rattle.std.proofs.Common.{refl}
use Rattle.trace_runs.proofs.Runs.{run_same, silent_run}
use Rattle.script_items.proofs.Playing.{handler_is, outside_is, tick_is}
use Rattle.script_items.proofs.items.run_item.Goals as goal

pub returns-in-Command-clause-says : goal.returns-in-Command-clause-says
returns-in-Command-clause-says g c = rw c.in-Command.is (run_same (outside_is _ _ _) c.run_caught.ensures.says)

pub returns-in-Tick-clause-says : goal.returns-in-Tick-clause-says
returns-in-Tick-clause-says g c = rw c.in-Tick.is (run_same (tick_is _ _ _ _) c.tick.ensures.says)

pub returns-in-Handler-clause-says : goal.returns-in-Handler-clause-says
returns-in-Handler-clause-says g c = rw c.in-Handler.is (run_same (handler_is _ _ _ _ _ _) (silent_run refl))
