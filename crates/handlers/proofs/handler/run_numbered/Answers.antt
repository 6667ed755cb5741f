use Rattle.std.proofs.Common.{refl}
use Rattle.trace_runs.proofs.Runs.{caught_cut, caught_ended, run_same, silent_run}
use Rattle.handlers.proofs.Handlers.{handler_is, named_is, no_handler_is, unnamed_is}
use Rattle.handlers.proofs.handler.run_numbered.Goals as goal

pub returns-in-None-clause-says : goal.returns-in-None-clause-says
returns-in-None-clause-says g c = run_same (unnamed_is _ _ c.args.number _ (no_handler_is _ c.args.number c.in-None.ensures.value)) (silent_run refl)

pub returns-in-Ok-clause-says : goal.returns-in-Ok-clause-says
returns-in-Ok-clause-says g c =
    run_same (named_is _ _ c.args.number _ _ (handler_is _ c.args.number _ c.in-Some.ensures.value)) (caught_ended c.in-Ok.field-0 c.in-Ok.ensures.says)

pub returns-in-Err-clause-says : goal.returns-in-Err-clause-says
returns-in-Err-clause-says g c =
    run_same (named_is _ _ c.args.number _ _ (handler_is _ c.args.number _ c.in-Some.ensures.value)) (caught_cut c.in-Err.fault c.in-Err.ensures.says)
