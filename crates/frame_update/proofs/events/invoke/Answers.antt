use Rattle.std.proofs.Common.{refl}
use Rattle.script_model.specs.Scripts.{handlers_in}
use Rattle.page_model.specs.Callbacks.{notify_listener, Script}
use Rattle.page_model.specs.Runs.{for_each}
use Rattle.event_tables.specs.Seen.{seen_target}
use Rattle.frame_update.proofs.Listening.{copied_at, copied_called, left_at, left_shorter, next_called, none_called}
use Rattle.frame_update.proofs.Going.{run_begins, run_goes_on, run_is_cut, run_is_done}
use Rattle.frame_update.proofs.events.invoke.Goals as goal

pub loop-handler-init : goal.loop-handler-init
loop-handler-init g c = record {
  way =
      run_begins refl c.requires.ready
      (copied_called (handlers_in c.args.run.now.script.now.items) (seen_target c.args.target) c.args.event c.in-Ok.dispatch c.args.run.now.page.now.world c.in-Ok.ensures);
  at = copied_at (handlers_in c.args.run.now.script.now.items) (seen_target c.args.target) c.args.event c.in-Ok.dispatch c.args.run.now.page.now.world c.in-Ok.ensures;
}

pub call_handler-requires-clause-ready : goal.call_handler-requires-clause-ready
call_handler-requires-clause-ready g c = c.loop-handler.invariant.way.ready

pub loop-handler-smaller : goal.loop-handler-smaller
loop-handler-smaller g c =
    left_shorter (handlers_in c.loop-handler.run.script.now.items) c.loop-handler.dispatch c.loop-handler.run.page.now.world c.in-Some.handler.0 c.next_listener.new.dispatch
    c.in-Some.ensures.value c.in-Some.ensures.left

pub loop-handler-preserved : goal.loop-handler-preserved
loop-handler-preserved g c = record {
  way =
      run_goes_on c.loop-handler.invariant.way c.in_ok-call_handler.ensures refl (λ (script : Script). for_each (notify_listener script) c.next_listener.new.dispatch)
      (next_called (handlers_in c.loop-handler.run.script.now.items) c.loop-handler.dispatch c.loop-handler.run.page.now.world (seen_target c.args.target) c.callback_of.result.0.0 c.in-Some.handler.0
      c.next_listener.new.dispatch c.loop-handler.invariant.at c.in-Some.ensures.value c.in-Some.ensures.left c.callback_of.ensures.document);
  at =
      left_at (handlers_in c.loop-handler.run.script.now.items) c.loop-handler.dispatch c.loop-handler.run.page.now.world (seen_target c.args.target) c.next_listener.new.dispatch c.loop-handler.invariant.at c.in-Some.ensures.left;
}

pub returns-in_err-call_handler : goal.returns-in_err-call_handler
returns-in_err-call_handler g c =
    run_is_cut c.loop-handler.invariant.way c.in_err-call_handler.ensures refl (λ (script : Script). for_each (notify_listener script) c.next_listener.new.dispatch)
    (next_called (handlers_in c.loop-handler.run.script.now.items) c.loop-handler.dispatch c.loop-handler.run.page.now.world (seen_target c.args.target) c.callback_of.result.0.0 c.in-Some.handler.0
    c.next_listener.new.dispatch c.loop-handler.invariant.at c.in-Some.ensures.value c.in-Some.ensures.left c.callback_of.ensures.document)
    c.from_residual.result c.from_residual.ensures

pub returns : goal.returns
returns g c =
    run_is_done c.loop-handler.invariant.way refl c.loop-handler.invariant.way.ready
    (none_called (handlers_in c.loop-handler.run.script.now.items) c.loop-handler.dispatch c.loop-handler.run.page.now.world c.in_default-next_listener.ensures.value)
