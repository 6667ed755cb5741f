use Rattle.std.proofs.Common.{refl}
use Rattle.script_model.specs.Scripts.{handlers_in}
use Rattle.trace_runs.proofs.Runs.{run_same, silent_run}
use Rattle.frame_update.proofs.Going.{arrived, passed_on}
use Rattle.frame_update.proofs.Resizing.{noted_again, noted_anew, noted_there}
use Rattle.frame_update.proofs.Ready.{still_prepared}
use Rattle.frame_update.proofs.steps.resize_steps.Goals as goal

pub returns-then-not-viewport_changed : goal.returns-then-not-viewport_changed
returns-then-not-viewport_changed g c =
    arrived refl refl (still_prepared c.args.run.now.script.now.items c.args.run.now.page.now.world c.viewport_changed.new.self.world c.if-not-viewport_changed.ensures.ready c.requires.ready)
    (run_same
    (noted_again c.args.document.0 c.args.run.now.page.now.world c.viewport_changed.new.self.world c.if-not-viewport_changed.ensures.noted (handlers_in c.args.run.now.script.now.items)
    c.if-not-viewport_changed.ensures.value)
    (silent_run refl))

pub label-requires : goal.label-requires
label-requires g c = noted_there c.args.document.0 c.args.run.now.page.now.world c.viewport_changed.new.self.world c.if-not-viewport_changed.ensures.noted c.requires.active

pub fire-requires : goal.fire-requires
fire-requires g c = record {
  ready = still_prepared c.args.run.now.script.now.items c.args.run.now.page.now.world c.viewport_changed.new.self.world c.if-not-viewport_changed.ensures.ready c.requires.ready;
}

pub returns : goal.returns
returns g c =
    passed_on c.fire.ensures refl refl
    (run_same
    (noted_anew c.args.document.0 c.args.run.now.page.now.world c.viewport_changed.new.self.world c.if-not-viewport_changed.ensures.noted (handlers_in c.args.run.now.script.now.items)
    c.label.result c.label.ensures c.if-not-viewport_changed.ensures.value)
    c.fire.ensures.says)
