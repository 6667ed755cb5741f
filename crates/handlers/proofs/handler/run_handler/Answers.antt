use Rattle.std.proofs.Common.{refl, sym}
use Rattle.std.specs.Prelude.{Ok}
use Rattle.trace_runs.proofs.Following.{cut_saying, then_run}
use Rattle.trace_runs.proofs.Runs.{run_same, say_run, silent_run}
use Rattle.handlers.proofs.Handlers.{call_active, call_inactive}
use Rattle.handlers.proofs.handler.run_handler.Goals as goal

pub returns-then-not-is_active-clause-says : goal.returns-then-not-is_active-clause-says
returns-then-not-is_active-clause-says g c = run_same (call_inactive _ c.args.document.0 _ _ _ (sym c.if-not-is_active.ensures)) (silent_run refl)

pub returns-in-Ok-clause-says : goal.returns-in-Ok-clause-says
returns-in-Ok-clause-says g c =
    run_same (call_active _ c.args.document.0 _ _ _ (sym c.if-not-is_active.ensures))
    (then_run c.run_named.result _ refl (say_run (Ok (tt {0})) c.in-Ok.ensures) c.run_named.ensures.says)

pub returns-in-Err-clause-says : goal.returns-in-Err-clause-says
returns-in-Err-clause-says g c =
    run_same (call_active _ c.args.document.0 _ _ _ (sym c.if-not-is_active.ensures))
    (cut_saying c.in-Err.fault _ _ _ c.in-Err.ensures)
