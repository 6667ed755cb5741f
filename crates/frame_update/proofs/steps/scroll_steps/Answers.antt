use Rattle.std.proofs.Common.{◌+◌, ap, drop, refl, ◌∙◌}
use Rattle.std.proofs.lemmas.List.{get_or_default}
use Rattle.script_model.specs.Scripts.{handlers_in}
use Rattle.page_model.specs.Callbacks.{Script}
use Rattle.page_model.specs.Runs.{for_each}
use Rattle.page_state.specs.Views.{PageView}
use Rattle.container_model.specs.Seen.{seen_container, seen_containers}
use Rattle.trace_runs.proofs.Loops.{each_more, each_none}
use Rattle.frame_update.proofs.Scrolling.{IsThere, one_of_all, scroll_one, scrolls_taken, still_there, taken_there}
use Rattle.frame_update.proofs.Ready.{still_prepared}
use Rattle.frame_update.proofs.Going.{run_begins, run_goes_on, run_is_cut, run_is_done}
use Rattle.frame_update.proofs.steps.scroll_steps.Goals as goal

pub loop-target-init : goal.loop-target-init
loop-target-init g c = record {
  way =
      run_begins refl (still_prepared c.args.run.now.script.now.items c.args.run.now.page.now.world c.take_scrolled-scrolled.new.self.world c.take_scrolled-scrolled.ensures.ready c.requires.ready)
      (scrolls_taken (handlers_in c.args.run.now.script.now.items) c.args.document.0 c.deref-target-items.result.now c.args.run.now.page.now.world c.take_scrolled-scrolled.new.self.world
      (ap seen_containers c.deref-target-items.ensures.value ∙ c.take_scrolled-scrolled.ensures.value) (ap (λ (page : PageView). page.world) c.take_scrolled-scrolled.ensures.taken));
  there =
      taken_there c.args.run.now.script.now.items c.args.document.0 c.deref-target-items.result.now c.args.run.now.page.now.world c.take_scrolled-scrolled.new.self.world c.requires.ready
      (ap seen_containers c.deref-target-items.ensures.value ∙ c.take_scrolled-scrolled.ensures.value) (ap (λ (page : PageView). page.world) c.take_scrolled-scrolled.ensures.taken);
}

pub scroll_step-requires-clause-ready : goal.scroll_step-requires-clause-ready
scroll_step-requires-clause-ready g c = c.loop-target.invariant.way.ready

pub scroll_step-requires-clause-target : goal.scroll_step-requires-clause-target
scroll_step-requires-clause-target g c =
    one_of_all (IsThere c.loop-target.run.page.now.world) c.deref-target-items.result.now c.loop-target.target-index _ c.loop-target.invariant.there c.loop-target-test.true
    (get_or_default c.deref-target-items.result.now c.loop-target.target-index _ _ c.loop-target-test.true)

pub returns-in_err-scroll_step : goal.returns-in_err-scroll_step
returns-in_err-scroll_step g c =
    run_is_cut c.loop-target.invariant.way c.in_err-scroll_step.ensures refl (λ (script : Script). for_each (λ item. scroll_one script c.args.document.0 (seen_container item)) (drop (c.loop-target.target-index + 1) c.deref-target-items.result.now))
    (each_more (λ item. scroll_one (handlers_in c.loop-target.run.script.now.items) c.args.document.0 (seen_container item)) c.deref-target-items.result.now c.loop-target.target-index _
    c.loop-target.run.page.now.world c.loop-target-test.true (get_or_default c.deref-target-items.result.now c.loop-target.target-index _ _ c.loop-target-test.true))
    c.from_residual.result c.from_residual.ensures

pub loop-target-preserved : goal.loop-target-preserved
loop-target-preserved g c = record {
  way =
      run_goes_on c.loop-target.invariant.way c.in_ok-scroll_step.ensures refl (λ (script : Script). for_each (λ item. scroll_one script c.args.document.0 (seen_container item)) (drop (c.loop-target.target-index + 1) c.deref-target-items.result.now))
      (each_more (λ item. scroll_one (handlers_in c.loop-target.run.script.now.items) c.args.document.0 (seen_container item)) c.deref-target-items.result.now c.loop-target.target-index _
      c.loop-target.run.page.now.world c.loop-target-test.true (get_or_default c.deref-target-items.result.now c.loop-target.target-index _ _ c.loop-target-test.true));
  there =
      still_there (handlers_in c.loop-target.run.script.now.items) c.deref-target-items.result.now c.args.document.0 _ c.loop-target.run.page.now.world c.scroll_step.new.run.page.now.world c.in_ok-scroll_step.ensures.says.ended.state_is
      c.loop-target.invariant.there;
}

pub returns : goal.returns
returns g c =
    run_is_done c.loop-target.invariant.way refl c.loop-target.invariant.way.ready
    (each_none (λ item. scroll_one (handlers_in c.loop-target.run.script.now.items) c.args.document.0 (seen_container item)) c.deref-target-items.result.now c.loop-target.target-index c.loop-target.run.page.now.world c.loop-target-test.false)
