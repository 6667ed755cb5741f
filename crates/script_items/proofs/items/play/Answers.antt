use Rattle.trace_runs.proofs.Runs.{run_same}
use Rattle.script_items.proofs.Playing.{script_is}
use Rattle.script_items.proofs.items.play.Goals as goal

pub returns-clause-says : goal.returns-clause-says
returns-clause-says g c = run_same (script_is c.items.result.now _ _ c.items.ensures.value) c.play_items.ensures.says
