use Rattle.std.proofs.Common.{ap, refl, sym}
use Rattle.std.specs.Prelude.{Some}
use Rattle.script_model.specs.TraceLines.{TimerLine}
use Rattle.page_laws.proofs.Changes.{active-in}
use Rattle.trace_runs.proofs.Runs.{run_same, silent_run}
use Rattle.frame_update.proofs.Called.{told_active, told_inactive, told_run, untold_run}
use Rattle.frame_update.proofs.Going.{arrived, passed_on, stopped}
use Rattle.frame_update.proofs.timers.run_timer.Goals as goal

pub returns-then-not-is_active : goal.returns-then-not-is_active
returns-then-not-is_active g c =
    arrived refl refl c.requires.ready
    (run_same (told_inactive _ c.args.document.0 (Some c.args.handler.0) _ c.args.run.now.page.now.world (sym c.if-not-is_active.ensures)) (silent_run refl))

pub label-name-requires : goal.label-name-requires
label-name-requires g c = active-in (c.args.run.now.page.now.world.tree) c.args.document.0 (sym c.if-not-is_active.ensures)

pub returns-in_err-write_one : goal.returns-in_err-write_one
returns-in_err-write_one g c =
    stopped c.from_residual.result c.in_err-write_one.field-0.0 c.from_residual.ensures refl refl c.requires.ready
    (run_same (told_active _ c.args.document.0 (Some c.args.handler.0) _ c.args.run.now.page.now.world (sym c.if-not-is_active.ensures))
    (untold_run _ c.args.document.0 (Some c.args.handler.0) c.args.run.now.page.now.world (ap (λ name. TimerLine name c.args.key) c.label-name.ensures) c.in_err-write_one.field-0.0
    c.in_err-write_one.ensures.told))

pub returns : goal.returns
returns g c =
    passed_on c.call_handler.ensures refl refl
    (run_same (told_active _ c.args.document.0 (Some c.args.handler.0) _ c.args.run.now.page.now.world (sym c.if-not-is_active.ensures))
    (told_run _ c.args.document.0 (Some c.args.handler.0) c.args.run.now.page.now.world (ap (λ name. TimerLine name c.args.key) c.label-name.ensures) c.call_handler.result
    c.in_ok-write_one.ensures.told c.call_handler.ensures.says))
