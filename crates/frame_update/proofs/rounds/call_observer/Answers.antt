use Rattle.std.proofs.Common.{ap}
use Rattle.std.specs.Prelude.{ℕ, map, Err, Ok, Option}
use Rattle.script_model.specs.Scripts.{handlers_in}
use Rattle.page_model.specs.Callbacks.{call, SizeEntries}
use Rattle.page_model.specs.Loop.{emptied}
use Rattle.depth_gather.specs.Entries.{seen_entry}
use Rattle.trace_runs.specs.declared.faults.RunFault.TheVariants.{Limit}
use Rattle.trace_runs.proofs.Runs.{run_same}
use Rattle.frame_update.proofs.Delivered.{are_handed, memory_lifted, turn_run}
use Rattle.frame_update.proofs.Going.{arrived, cut_short}
use Rattle.frame_update.proofs.Observers.{called_within}
use Rattle.frame_update.proofs.Ready.{still_prepared}
use Rattle.frame_update.proofs.rounds.call_observer.Goals as goal

pub call_handler-requires : goal.call_handler-requires
call_handler-requires g c = record {
  ready = c.requires.ready;
  handed = are_handed _ c.args.delivery.observer.0 c.args.delivery.entries c.requires.observer c.requires.entries c.requires.lengths;
}

pub end_turn-requires : goal.end_turn-requires
end_turn-requires g c = called_within _ _ _ _ _ _ c.in-Ok.ensures.says.ended.state_is c.args.delivery.observer.0 c.requires.observer

pub end_turn-requires-in-Err-Limit : goal.end_turn-requires-in-Err-Limit
end_turn-requires-in-Err-Limit g c =
    let called = rw c.in-Err-Limit.field-0-is at c.in-Err-Limit.ensures in
    called_within _ _ _ _ _ _ called.says.cut_off.state_is c.args.delivery.observer.0 c.requires.observer

pub returns-in-Ok : goal.returns-in-Ok
returns-in-Ok g c =
    let called = c.in-Ok.ensures in
    arrived called.script called.lent
    (still_prepared c.call_handler.new.run.script.now.items c.call_handler.new.run.page.now.world c.end_turn.new.page.world c.end_turn.ensures.ready called.ready)
    (turn_run (emptied c.args.document.0 c.args.delivery.observer.0) (Ok (tt {0})) c.end_turn.ensures.emptied
    (run_same
    (ap
    (λ (handler : Option ℕ).
    call (handlers_in c.args.run.now.script.now.items) c.args.document.0 handler (SizeEntries c.args.delivery.observer.0 (map seen_entry c.args.delivery.entries)) c.args.run.now.page.now.world)
    c.callback_of-handler.ensures.handler)
    called.says))

pub returns-in-Err-Limit : goal.returns-in-Err-Limit
returns-in-Err-Limit g c =
    let called = rw c.in-Err-Limit.field-0-is at c.in-Err-Limit.ensures in
    cut_short called.script called.lent
    (still_prepared c.call_handler.new.run.script.now.items c.call_handler.new.run.page.now.world c.end_turn-in-Err-Limit.new.page.world c.end_turn-in-Err-Limit.ensures.ready called.ready)
    (turn_run (emptied c.args.document.0 c.args.delivery.observer.0) (Err (Limit c.in-Err-Limit.kind c.in-Err-Limit.line c.in-Err-Limit.number)) c.end_turn-in-Err-Limit.ensures.emptied
    (run_same
    (ap
    (λ (handler : Option ℕ).
    call (handlers_in c.args.run.now.script.now.items) c.args.document.0 handler (SizeEntries c.args.delivery.observer.0 (map seen_entry c.args.delivery.entries)) c.args.run.now.page.now.world)
    c.callback_of-handler.ensures.handler)
    called.says))

pub returns-in-Err-Memory : goal.returns-in-Err-Memory
returns-in-Err-Memory g c =
    let called = rw c.in-Err-Memory.field-0-is at c.in-Err-Memory.ensures in
    cut_short called.script called.lent called.ready
    (memory_lifted (emptied c.args.document.0 c.args.delivery.observer.0)
    (run_same
    (ap
    (λ (handler : Option ℕ).
    call (handlers_in c.args.run.now.script.now.items) c.args.document.0 handler (SizeEntries c.args.delivery.observer.0 (map seen_entry c.args.delivery.entries)) c.args.run.now.page.now.world)
    c.callback_of-handler.ensures.handler)
    called.says))
