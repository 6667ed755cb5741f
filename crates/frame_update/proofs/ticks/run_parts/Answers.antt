use Rattle.std.proofs.Common.{◌∙◌, refl}
use Rattle.script_model.specs.Scripts.{handlers_in}
use Rattle.page_model.specs.Callbacks.{Script}
use Rattle.page_model.specs.Ticks.{run_tasks, update_rendering}
use Rattle.frame_update.proofs.Going.{over_first, passed_on, stopped}
use Rattle.frame_update.proofs.Ticking.{tick_run, tick_timers_cut, tick_unsaid, tick_update_cut}
use Rattle.frame_update.proofs.ticks.run_parts.Goals as goal

pub returns-in_err-write_one : goal.returns-in_err-write_one
returns-in_err-write_one g c =
    stopped c.from_residual.result c.in_err-write_one.field-0.0 c.from_residual.ensures refl refl c.requires.ready
    (tick_unsaid (handlers_in c.args.run.now.script.now.items) c.args.time c.args.run.now.page.now.world c.requires.time c.in_err-write_one.field-0.0 c.in_err-write_one.ensures.told)

pub returns-in_err-run_timers : goal.returns-in_err-run_timers
returns-in_err-run_timers g c =
    let timers = c.in_err-run_timers.ensures in
    stopped c.from_residual-in_err-run_timers.result c.in_err-run_timers.field-0.0 c.from_residual-in_err-run_timers.ensures timers.script timers.lent timers.ready
    (tick_timers_cut (handlers_in c.args.run.now.script.now.items) c.args.time c.args.run.now.page.now.world c.requires.time c.in_ok-write_one.ensures.told c.in_err-run_timers.field-0.0 timers.says)

pub returns-in_err-update_rendering : goal.returns-in_err-update_rendering
returns-in_err-update_rendering g c =
    let timers = c.in_ok-run_timers.ensures in
    let update = c.in_err-update_rendering.ensures in
    stopped c.from_residual-in_err-update_rendering.result c.in_err-update_rendering.field-0.0 c.from_residual-in_err-update_rendering.ensures (update.script ∙ timers.script)
    (update.lent ∙ timers.lent) update.ready
    (tick_update_cut (handlers_in c.args.run.now.script.now.items) c.args.time c.args.run.now.page.now.world c.requires.time c.in_ok-write_one.ensures.told timers.says c.in_err-update_rendering.field-0.0
    (over_first (λ (script : Script). update_rendering script c.run_timers.new.run.page.now.world) timers.script update.says))

pub returns : goal.returns
returns g c =
    let timers = c.in_ok-run_timers.ensures in
    let update = c.in_ok-update_rendering.ensures in
    passed_on c.run_tasks.ensures (update.script ∙ timers.script) (update.lent ∙ timers.lent)
    (tick_run (handlers_in c.args.run.now.script.now.items) c.args.time c.args.run.now.page.now.world c.requires.time c.in_ok-write_one.ensures.told timers.says c.run_tasks.result
    (over_first (λ (script : Script). update_rendering script c.run_timers.new.run.page.now.world) timers.script update.says)
    (over_first (λ (script : Script). run_tasks script c.update_rendering.new.run.page.now.world) (update.script ∙ timers.script) c.run_tasks.ensures.says))
