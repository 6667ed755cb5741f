use Rattle.std.proofs.Common.{◌∙◌, ap, refl, sym}
use Rattle.std.specs.Prelude.{option_map}
use Rattle.script_model.specs.Scripts.{handlers_in}
use Rattle.page_model.specs.Runs.{silent}
use Rattle.page_state.specs.Views.{PageView}
use Rattle.intersection_observer.specs.Seen.{seen_entry}
use Rattle.trace_runs.proofs.Runs.{run_same, silent_run}
use Rattle.frame_update.proofs.Going.{arrived, passed_on}
use Rattle.frame_update.proofs.Notifying.{empty_seen, filled_seen, records_handed, there_taken, turn_empty, turn_run}
use Rattle.frame_update.proofs.Ready.{still_prepared}
use Rattle.frame_update.proofs.notify.notify_watcher.Goals as goal

pub returns-then-is_empty : goal.returns-then-is_empty
returns-then-is_empty g c =
    arrived refl refl (still_prepared c.args.run.now.script.now.items c.args.run.now.page.now.world c.take_records-records.new.self.world c.take_records-records.ensures.ready c.requires.ready)
    (run_same
    (ap (λ (page : PageView). silent (page.world)) c.take_records-records.ensures.taken
    ∙ sym (turn_empty (handlers_in c.args.run.now.script.now.items) c.args.watcher.0 c.args.run.now.page.now.world
    (sym c.take_records-records.ensures.value ∙ empty_seen seen_entry c.as_slice.result.now c.take_records-records.result c.as_slice.ensures (sym c.if-is_empty.ensures))))
    (silent_run refl))

pub callback_of-handler-requires : goal.callback_of-handler-requires
callback_of-handler-requires g c =
    there_taken c.args.watcher.0 c.args.run.now.page.now.world c.take_records-records.new.self.world (ap (λ (page : PageView). page.world) c.take_records-records.ensures.taken) c.args.watcher.0
    c.requires.made

pub call_handler-requires : goal.call_handler-requires
call_handler-requires g c = record {
  ready = still_prepared c.args.run.now.script.now.items c.args.run.now.page.now.world c.take_records-records.new.self.world c.take_records-records.ensures.ready c.requires.ready;
  handed =
      records_handed c.args.watcher.0 c.args.run.now.page.now.world c.take_records-records.new.self.world (ap (λ (page : PageView). page.world) c.take_records-records.ensures.taken)
      c.take_records-records.result c.requires.made c.take_records-records.ensures.written;
}

pub returns : goal.returns
returns g c =
    passed_on c.call_handler.ensures refl refl
    (turn_run (handlers_in c.args.run.now.script.now.items) c.args.watcher.0 c.args.run.now.page.now.world c.take_records-records.new.self.world c.take_records-records.result
    c.take_records-records.ensures.value
    (filled_seen seen_entry c.as_slice.result.now c.take_records-records.result c.as_slice.ensures (sym c.if-is_empty.ensures))
    (ap (λ (page : PageView). page.world) c.take_records-records.ensures.taken) c.callback_of-handler.result.0.0 (option_map (λ it. it.0) c.callback_of-handler.result.1)
    c.callback_of-handler.ensures.document c.callback_of-handler.ensures.handler c.call_handler.result c.call_handler.ensures.says)
