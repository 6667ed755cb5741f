use Rattle.std.proofs.Common.{refl}
use Rattle.std.specs.Prelude.{Ok, Err}
use Rattle.page_model.specs.Callbacks.{Script, bubble}
use Rattle.event_tables.specs.Seen.{seen_target}
use Rattle.trace_runs.specs.Flows.{goes_on}
use Rattle.trace_runs.proofs.Following.{cut_run, cut_saying, then_run}
use Rattle.trace_runs.proofs.Runs.{run_same, say_run}
use Rattle.frame_update.proofs.Firing.{fire_is}
use Rattle.frame_update.proofs.Going.{over_first, passed_on, stopped}
use Rattle.frame_update.proofs.events.fire.Goals as goal

pub returns-in_err-write_one : goal.returns-in_err-write_one
returns-in_err-write_one g c =
    stopped c.from_residual.result c.in_err-write_one.field-0.0 c.from_residual.ensures refl refl c.requires.ready
    (run_same (fire_is _ _ _ _ _)
    (cut_run {A = Unit {0}} {flow = goes_on} c.in_err-write_one.field-0.0 _
    (cut_saying c.in_err-write_one.field-0.0 _ _ _ c.in_err-write_one.ensures.told)))

pub returns-in_err-invoke : goal.returns-in_err-invoke
returns-in_err-invoke g c =
    stopped c.from_residual-in_err-invoke.result c.in_err-invoke.field-0.0 c.from_residual-in_err-invoke.ensures c.in_err-invoke.ensures.script c.in_err-invoke.ensures.lent
    c.in_err-invoke.ensures.ready
    (run_same (fire_is _ _ _ _ _)
    (cut_run c.in_err-invoke.field-0.0 _
    (then_run (Err c.in_err-invoke.field-0.0) _ refl (say_run (Ok (tt {0})) c.in_ok-write_one.ensures.told) c.in_err-invoke.ensures.says)))

pub returns : goal.returns
returns g c =
    let invoked = c.in_ok-invoke.ensures in
    passed_on c.bubble.ensures invoked.script invoked.lent
    (run_same (fire_is _ _ _ _ _)
    (then_run c.bubble.result _ refl (then_run (Ok c.in_ok-invoke.field-0) _ refl (say_run (Ok (tt {0})) c.in_ok-write_one.ensures.told) invoked.says)
    (over_first (λ (script : Script). bubble script (seen_target c.args.target) c.args.event c.invoke.new.run.page.now.world) invoked.script c.bubble.ensures.says)))
