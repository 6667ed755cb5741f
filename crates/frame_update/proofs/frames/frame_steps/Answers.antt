use Rattle.std.proofs.Common.{◌∙◌, ap, arith, refl, subst, sym}
use Rattle.std.specs.Prelude.{length}
use Rattle.script_model.specs.Scripts.{handlers_in}
use Rattle.page_model.specs.Callbacks.{Script}
use Rattle.page_state.specs.Views.{PageView}
use Rattle.event_tables.specs.FrameCallbacks.{told}
use Rattle.frame_update.proofs.Ready.{still_prepared}
use Rattle.frame_update.proofs.Handed.{fewer_left}
use Rattle.frame_update.proofs.FrameTurns.{copied_of, frames_all, frames_left, frames_more, frames_none, frames_quiet, others_of, stands_now, AreOf}
use Rattle.frame_update.proofs.Going.{run_begins, run_goes_on, run_is_cut, run_is_done}
use Rattle.frame_update.proofs.frames.frame_steps.Goals as goal

pub loop-document-init : goal.loop-document-init
loop-document-init g c = record {
  way =
      run_begins refl c.requires.ready
      (frames_all (handlers_in c.args.run.now.script.now.items) c.args.document.0 c.args.run.now.page.now.world
      ∙ ap (λ batch. frames_left (handlers_in c.args.run.now.script.now.items) c.args.document.0 batch c.args.run.now.page.now.world) (sym c.in-Ok.ensures));
  own = subst (AreOf c.args.document.0) (sym c.in-Ok.ensures) (copied_of c.args.document.0 c.args.run.now.page.now.world);
}

pub returns-in_default-next_frame : goal.returns-in_default-next_frame
returns-in_default-next_frame g c =
    run_is_done c.loop-document.invariant.way refl
    (still_prepared c.loop-document.run.script.now.items c.loop-document.run.page.now.world c.next_frame.new.self.world c.next_frame.ensures.ready c.loop-document.invariant.way.ready)
    (frames_none (handlers_in c.loop-document.run.script.now.items) c.args.document.0 c.loop-document.batch c.loop-document.run.page.now.world c.next_frame.new.self.world (sym c.loop-document-test.ensures) c.in_default-next_frame.ensures.value (ap (λ (page : PageView). page.world) c.next_frame.ensures.removed))

pub run_frame_callback-requires-clause-ready : goal.run_frame_callback-requires-clause-ready
run_frame_callback-requires-clause-ready g c =
    still_prepared c.loop-document.run.script.now.items c.loop-document.run.page.now.world c.next_frame.new.self.world c.next_frame.ensures.ready c.loop-document.invariant.way.ready

pub loop-document-smaller : goal.loop-document-smaller
loop-document-smaller g c = omega (arith, fewer_left told (stands_now c.loop-document.run.page.now.world) _ c.loop-document.batch c.in-Some.ensures.value, ap length c.next_frame.ensures.left)

pub loop-document-preserved : goal.loop-document-preserved
loop-document-preserved g c = record {
  way =
      run_goes_on c.loop-document.invariant.way c.in_ok-run_frame_callback.ensures refl (λ (script : Script). frames_left script c.args.document.0 c.next_frame.new.batch)
      (frames_more (handlers_in c.loop-document.run.script.now.items) c.args.document.0 c.loop-document.batch c.loop-document.run.page.now.world c.in-Some.callback.0 c.in-Some.callback.1.0 c.next_frame.new.self.world _ (sym c.loop-document-test.ensures)
      c.loop-document.invariant.own c.in-Some.ensures.value (ap (λ (page : PageView). page.world) c.next_frame.ensures.removed) c.next_frame.ensures.left);
  own = others_of (handlers_in c.loop-document.run.script.now.items) c.args.document.0 c.loop-document.batch c.loop-document.run.page.now.world _ c.next_frame.ensures.left c.loop-document.invariant.own;
}

pub returns-in_err-run_frame_callback : goal.returns-in_err-run_frame_callback
returns-in_err-run_frame_callback g c =
    run_is_cut c.loop-document.invariant.way c.in_err-run_frame_callback.ensures refl (λ (script : Script). frames_left script c.args.document.0 c.next_frame.new.batch)
    (frames_more (handlers_in c.loop-document.run.script.now.items) c.args.document.0 c.loop-document.batch c.loop-document.run.page.now.world c.in-Some.callback.0 c.in-Some.callback.1.0 c.next_frame.new.self.world _ (sym c.loop-document-test.ensures)
    c.loop-document.invariant.own c.in-Some.ensures.value (ap (λ (page : PageView). page.world) c.next_frame.ensures.removed) c.next_frame.ensures.left)
    c.from_residual.result c.from_residual.ensures

pub returns : goal.returns
returns g c =
    run_is_done c.loop-document.invariant.way refl c.loop-document.invariant.way.ready
    (frames_quiet (handlers_in c.loop-document.run.script.now.items) c.args.document.0 c.loop-document.batch c.loop-document.run.page.now.world (sym c.loop-document-test.ensures))
