use Rattle.std.proofs.Common.{◌+◌, ap, drop, refl, sym, ◌∙◌}
use Rattle.std.proofs.lemmas.List.{get_or_default}
use Rattle.script_model.specs.Scripts.{handlers_in}
use Rattle.page_model.specs.Intersections.{notify, notify_watcher}
use Rattle.page_model.specs.World.{Notify}
use Rattle.page_model.specs.Callbacks.{Script}
use Rattle.page_model.specs.Runs.{for_each}
use Rattle.page_laws.specs.Ready.{with_first}
use Rattle.page_state.specs.Views.{PageView}
use Rattle.page_state.proofs.Ready.{notify_refused}
use Rattle.intersection_observer.specs.declared.root.WatcherId.{WatcherId}
use Rattle.intersection_update.specs.Watching.{watcher_numbers}
use Rattle.trace_runs.proofs.Loops.{each_more, each_none}
use Rattle.trace_runs.proofs.Runs.{memory_run, run_same, silent_run}
use Rattle.frame_update.proofs.Going.{arrived, cut_short, run_begins, run_goes_on, run_is_cut, run_is_done}
use Rattle.frame_update.proofs.Notifying.{listed_there, notify_dropped, notify_listed, still_there, turn_made}
use Rattle.frame_update.proofs.Ready.{ready_next, still_prepared}
use Rattle.frame_update.proofs.notify.notify.Goals as goal

pub returns-then-not-is_active : goal.returns-then-not-is_active
returns-then-not-is_active g c =
    arrived refl refl (ready_next c.args.run.now.script.now.items (with_first (Notify c.args.document.0) c.args.run.now.page.now.world) c.args.run.now.page.now.world
    (notify_refused c.args.run.now.page.now.world c.args.document.0) c.requires.ready)
    (run_same (sym (notify_dropped (handlers_in c.args.run.now.script.now.items) c.args.document.0 c.args.run.now.page.now.world (sym c.if-not-is_active.ensures)))
    (silent_run refl))

-- the list was refused, and the flag is cleared
pub returns-in_default : goal.returns-in_default
returns-in_default g c =
    cut_short refl refl
    (still_prepared c.args.run.now.script.now.items (with_first (Notify c.args.document.0) c.args.run.now.page.now.world) c.notify_list.new.self.world c.notify_list.ensures.ready c.requires.ready)
    (memory_run (notify (handlers_in c.args.run.now.script.now.items) c.args.document.0 c.args.run.now.page.now.world))

pub loop-watcher-init : goal.loop-watcher-init
loop-watcher-init g c = record {
  way =
      run_begins refl (still_prepared c.args.run.now.script.now.items (with_first (Notify c.args.document.0) c.args.run.now.page.now.world) c.notify_list.new.self.world c.in-Ok.ensures.ready c.requires.ready)
      (notify_listed (handlers_in c.args.run.now.script.now.items) c.args.document.0 c.args.run.now.page.now.world c.deref-watcher-items.result.now c.notify_list.new.self.world
      (sym c.if-not-is_active.ensures) (ap watcher_numbers c.deref-watcher-items.ensures.value ∙ c.in-Ok.ensures.list) (ap (λ (page : PageView). page.world) c.in-Ok.ensures.cleared));
  there =
      listed_there c.args.document.0 c.deref-watcher-items.result.now _ c.args.run.now.page.now.world c.notify_list.new.self.world c.deref-watcher-items.ensures.value
      (ap (λ (page : PageView). page.world) c.in-Ok.ensures.cleared) c.in-Ok.ensures.made;
}

pub returns-in_err-notify_watcher : goal.returns-in_err-notify_watcher
returns-in_err-notify_watcher g c =
    run_is_cut c.loop-watcher.invariant.way c.in_err-notify_watcher.ensures refl (λ (script : Script). for_each (λ (item : WatcherId). notify_watcher script (item.0)) (drop (c.loop-watcher.watcher-index + 1) c.deref-watcher-items.result.now))
    (each_more (λ (item : WatcherId). notify_watcher (handlers_in c.loop-watcher.run.script.now.items) (item.0)) c.deref-watcher-items.result.now c.loop-watcher.watcher-index _ c.loop-watcher.run.page.now.world
    c.loop-watcher-test.true (get_or_default c.deref-watcher-items.result.now c.loop-watcher.watcher-index _ _ c.loop-watcher-test.true))
    c.from_residual.result c.from_residual.ensures

pub loop-watcher-preserved : goal.loop-watcher-preserved
loop-watcher-preserved g c = record {
  way =
      run_goes_on c.loop-watcher.invariant.way c.in_ok-notify_watcher.ensures refl (λ (script : Script). for_each (λ (item : WatcherId). notify_watcher script (item.0)) (drop (c.loop-watcher.watcher-index + 1) c.deref-watcher-items.result.now))
      (each_more (λ (item : WatcherId). notify_watcher (handlers_in c.loop-watcher.run.script.now.items) (item.0)) c.deref-watcher-items.result.now c.loop-watcher.watcher-index _ c.loop-watcher.run.page.now.world
      c.loop-watcher-test.true (get_or_default c.deref-watcher-items.result.now c.loop-watcher.watcher-index _ _ c.loop-watcher-test.true));
  there =
      still_there c.loop-watcher.run.page.now.world c.notify_watcher.new.run.page.now.world c.deref-watcher-items.result.now
      (turn_made (handlers_in c.loop-watcher.run.script.now.items) _ c.loop-watcher.run.page.now.world c.notify_watcher.new.run.page.now.world c.in_ok-notify_watcher.ensures.says.ended.state_is)
      c.loop-watcher.invariant.there;
}

pub returns : goal.returns
returns g c =
    run_is_done c.loop-watcher.invariant.way refl c.loop-watcher.invariant.way.ready
    (each_none (λ (item : WatcherId). notify_watcher (handlers_in c.loop-watcher.run.script.now.items) (item.0)) c.deref-watcher-items.result.now c.loop-watcher.watcher-index c.loop-watcher.run.page.now.world c.loop-watcher-test.false)
