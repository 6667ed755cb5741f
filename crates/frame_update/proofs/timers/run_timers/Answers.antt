use Rattle.std.proofs.Common.{◌∙◌, ap, arith, refl, sym}
use Rattle.std.specs.Prelude.{length}
use Rattle.script_model.specs.Scripts.{handlers_in}
use Rattle.page_model.specs.Callbacks.{Script}
use Rattle.page_state.specs.Views.{PageView}
use Rattle.event_tables.specs.Timers.{copied_stands, told}
use Rattle.frame_update.proofs.Ready.{still_prepared}
use Rattle.frame_update.proofs.Handed.{fewer_left}
use Rattle.frame_update.proofs.DueTimers.{timers_all, timers_left, timers_more, timers_none}
use Rattle.frame_update.proofs.Going.{run_begins, run_goes_on, run_is_cut, run_is_done}
use Rattle.frame_update.proofs.timers.run_timers.Goals as goal

pub loop-timer-init : goal.loop-timer-init
loop-timer-init g c =
    run_begins refl c.requires.ready
    (timers_all (handlers_in c.args.run.now.script.now.items) c.args.run.now.page.now.world
    ∙ ap (λ batch. timers_left (handlers_in c.args.run.now.script.now.items) batch c.args.run.now.page.now.world) (sym c.in-Ok.ensures))

pub run_timer-requires : goal.run_timer-requires
run_timer-requires g c = record {
  ready = still_prepared c.loop-timer.run.script.now.items c.loop-timer.run.page.now.world c.next_timer.new.self.world c.next_timer.ensures.ready c.loop-timer.invariant.ready;
}

pub loop-timer-smaller : goal.loop-timer-smaller
loop-timer-smaller g c =
    omega (arith, fewer_left told (copied_stands (c.loop-timer.run.page.now.world.timers)) _ c.loop-timer.due c.in-Some.ensures.value, ap length c.next_timer.ensures.left)

pub loop-timer-preserved : goal.loop-timer-preserved
loop-timer-preserved g c =
    run_goes_on c.loop-timer.invariant c.in_ok-run_timer.ensures refl (λ (script : Script). timers_left script c.next_timer.new.batch)
    (timers_more (handlers_in c.loop-timer.run.script.now.items) c.loop-timer.due c.loop-timer.run.page.now.world c.in-Some.timer.0.0 c.in-Some.timer.1 c.in-Some.timer.2.0
    c.next_timer.new.self.world _ c.in-Some.ensures.value (ap (λ (page : PageView). page.world) c.next_timer.ensures.removed) c.next_timer.ensures.left)

pub returns-in_err-run_timer : goal.returns-in_err-run_timer
returns-in_err-run_timer g c =
    run_is_cut c.loop-timer.invariant c.in_err-run_timer.ensures refl (λ (script : Script). timers_left script c.next_timer.new.batch)
    (timers_more (handlers_in c.loop-timer.run.script.now.items) c.loop-timer.due c.loop-timer.run.page.now.world c.in-Some.timer.0.0 c.in-Some.timer.1 c.in-Some.timer.2.0
    c.next_timer.new.self.world _ c.in-Some.ensures.value (ap (λ (page : PageView). page.world) c.next_timer.ensures.removed) c.next_timer.ensures.left)
    c.from_residual.result c.from_residual.ensures

pub returns : goal.returns
returns g c =
    run_is_done c.loop-timer.invariant refl
    (still_prepared c.loop-timer.run.script.now.items c.loop-timer.run.page.now.world c.next_timer.new.self.world c.next_timer.ensures.ready c.loop-timer.invariant.ready)
    (timers_none (handlers_in c.loop-timer.run.script.now.items) c.loop-timer.due c.loop-timer.run.page.now.world c.next_timer.new.self.world c.in_default-next_timer.ensures.value (ap (λ (page : PageView). page.world) c.next_timer.ensures.removed))
