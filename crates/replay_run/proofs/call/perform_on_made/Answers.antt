use Rattle.std.specs.Prelude.{Ok}
use Rattle.script_replay.proofs.Asking.{script_tells}
use Rattle.script_replay.proofs.Ready.{ready_some}
use Rattle.replay_run.proofs.call.perform_on_made.Goals as goal

pub returns-in-Ok-clause-tells : goal.returns-in-Ok-clause-tells
returns-in-Ok-clause-tells g c = script_tells c.perform.result.status c.args.job _ _ _ _ _ _ c.in-Ok.ensures.read c.perform.ensures.tells

pub returns-in-Ok-clause-ready : goal.returns-in-Ok-clause-ready
returns-in-Ok-clause-ready g c = ready_some (Ok c.in-Ok.script) c.perform.result.page c.perform.ensures.ready
