use Rattle.std.proofs.Common.{ap, refl}
use Rattle.std.specs.Prelude.{length}
use Rattle.script_model.specs.Scripts.{handlers_in}
use Rattle.page_model.specs.Callbacks.{Script}
use Rattle.page_state.specs.Views.{PageView}
use Rattle.frame_update.proofs.Evaluating.{evaluated_there, fewer_places, media_turns, next_told, none_told, turns_from, turns_left}
use Rattle.frame_update.proofs.Ready.{still_prepared}
use Rattle.frame_update.proofs.Going.{run_begins, run_goes_on, run_is_cut, run_is_done}
use Rattle.frame_update.proofs.steps.media_steps.Goals as goal

pub loop-document-init : goal.loop-document-init
loop-document-init g c =
    run_begins refl c.requires.ready
    (media_turns (handlers_in c.args.run.now.script.now.items) c.args.document.0 c.args.run.now.page.now.world)

pub returns-in_default : goal.returns-in_default
returns-in_default g c =
    run_is_done c.loop-document.invariant refl (still_prepared c.loop-document.run.script.now.items c.loop-document.run.page.now.world c.next_change.new.self.world c.in_default.ensures.ready c.loop-document.invariant.ready)
    (none_told (handlers_in c.loop-document.run.script.now.items) c.args.document.0 c.loop-document.run.page.now.world c.loop-document-test.ensures c.loop-document.invariant.ready.limits.queries c.loop-document.place
    c.next_change.new.self.world c.in_default.ensures.query (ap (λ (page : PageView). page.world) c.in_default.ensures.evaluated))

pub report_change-requires-clause-ready : goal.report_change-requires-clause-ready
report_change-requires-clause-ready g c = still_prepared c.loop-document.run.script.now.items c.loop-document.run.page.now.world c.next_change.new.self.world c.in-Some.ensures.ready c.loop-document.invariant.ready

pub report_change-requires-clause-query : goal.report_change-requires-clause-query
report_change-requires-clause-query g c =
    evaluated_there c.args.document.0 _ c.loop-document.run.page.now.world c.next_change.new.self.world (ap (λ (page : PageView). page.world) c.in-Some.ensures.evaluated) c.in-Some.change.query c.in-Some.ensures.place.1

pub loop-document-smaller : goal.loop-document-smaller
loop-document-smaller g c =
    fewer_places c.loop-document.place c.in-Some.change.query c.in-Some.change.place (length c.loop-document.run.page.now.world.queries) _ c.in-Some.ensures.query c.in-Some.ensures.place.0
    c.in-Some.ensures.place.1 c.loop-document.invariant.ready.limits.queries

pub loop-document-preserved : goal.loop-document-preserved
loop-document-preserved g c =
    run_goes_on c.loop-document.invariant c.in_ok-report_change.ensures refl (λ (script : Script). turns_from script c.args.document.0 c.in-Some.change.place)
    (next_told (handlers_in c.loop-document.run.script.now.items) c.args.document.0 c.loop-document.run.page.now.world c.loop-document-test.ensures c.loop-document.invariant.ready.limits.queries c.loop-document.place
    c.in-Some.change.query c.in-Some.change.place c.in-Some.change.matches c.next_change.new.self.world c.in-Some.ensures.query c.in-Some.ensures.matches c.in-Some.ensures.place.0
    (ap (λ (page : PageView). page.world) c.in-Some.ensures.evaluated))

pub returns-in_err-report_change : goal.returns-in_err-report_change
returns-in_err-report_change g c =
    run_is_cut c.loop-document.invariant c.in_err-report_change.ensures refl (λ (script : Script). turns_from script c.args.document.0 c.in-Some.change.place)
    (next_told (handlers_in c.loop-document.run.script.now.items) c.args.document.0 c.loop-document.run.page.now.world c.loop-document-test.ensures c.loop-document.invariant.ready.limits.queries c.loop-document.place
    c.in-Some.change.query c.in-Some.change.place c.in-Some.change.matches c.next_change.new.self.world c.in-Some.ensures.query c.in-Some.ensures.matches c.in-Some.ensures.place.0
    (ap (λ (page : PageView). page.world) c.in-Some.ensures.evaluated))
    c.from_residual.result c.from_residual.ensures

pub returns : goal.returns
returns g c =
    run_is_done c.loop-document.invariant refl c.loop-document.invariant.ready
    (turns_left (handlers_in c.loop-document.run.script.now.items) c.args.document.0 c.loop-document.place c.loop-document.run.page.now.world c.loop-document-test.ensures)
