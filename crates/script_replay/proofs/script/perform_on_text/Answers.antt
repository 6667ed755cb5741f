use Rattle.script_replay.proofs.Asking.{script_tells}
use Rattle.script_replay.proofs.Ready.{ready_read}
use Rattle.script_replay.proofs.script.perform_on_text.Goals as goal

pub returns-in-Ok-clause-tells : goal.returns-in-Ok-clause-tells
returns-in-Ok-clause-tells g c = script_tells c.perform.result.status c.args.job _ _ _ _ _ _ c.in-Ok.ensures.value c.perform.ensures.tells

pub returns-in-Ok-clause-ready : goal.returns-in-Ok-clause-ready
returns-in-Ok-clause-ready g c = ready_read _ _ c.perform.result.page c.in-Ok.ensures.value c.perform.ensures.ready
