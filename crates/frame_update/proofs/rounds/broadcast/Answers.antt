use Rattle.std.proofs.Common.{◌∙◌, ap, arith, refl, subst, sym}
use Rattle.std.specs.Borrow.{Bor}
use Rattle.std.specs.Prelude.{Err, None, Ok, length}
use Rattle.script_model.specs.Scripts.{handlers_in}
use Rattle.script_model.specs.Syntax as syntax
use Rattle.page_model.specs.Callbacks.{Script}
use Rattle.page_model.specs.Gathering.{sight_of}
use Rattle.page_model.specs.Loop.{broadcast}
use Rattle.depth_gather.specs.Deliveries.{active_at}
use Rattle.page_state.specs.Views.{PageView}
use Rattle.trace_runs.specs.declared.faults.RunFault.TheVariants.{Memory}
use Rattle.trace_runs.proofs.Following.{end_memory}
use Rattle.trace_runs.proofs.Runs.{lifted_run}
use Rattle.frame_update.specs.Ready.{IsPrepared}
use Rattle.frame_update.proofs.Going.{arrived, over_first, stopped}
use Rattle.frame_update.proofs.Broadcasts.{broadcast_at, broadcast_begins, broadcast_cut, broadcast_left, broadcast_none, broadcast_on, handed_entries, handed_made, handed_out, place_few, place_past, shallowest_is, world_in}
use Rattle.frame_update.proofs.Ready.{still_prepared}
use Rattle.frame_update.proofs.rounds.broadcast.Goals as goal

pub loop-document-init : goal.loop-document-init
loop-document-init g c = record { turns = broadcast_begins c.args.run.now.script.now.items c.args.document.0 _ _ c.args.run.now.page.now.world c.requires.ready; script = refl; lent = refl }

pub returns-in_default-clause-goes : goal.returns-in_default-clause-goes
returns-in_default-clause-goes g c = record {
  says =
      lifted_run world_in (Err Memory)
      (over_first (λ (script : Script). broadcast script c.args.document.0 c.args.run.now.page.now.world) c.loop-document.invariant.script
      (end_memory {state = broadcast_at None c.next_delivery.new.self.world} c.loop-document.invariant.turns.following));
  ready = still_prepared c.loop-document.run.script.now.items c.loop-document.run.page.now.world c.next_delivery.new.self.world c.next_delivery.ensures.ready c.loop-document.invariant.turns.ready;
  script = c.loop-document.invariant.script;
  lent = c.loop-document.invariant.lent;
}

pub returns-in_default-next-clause-goes : goal.returns-in_default-next-clause-goes
returns-in_default-next-clause-goes g c =
    arrived c.loop-document.invariant.script c.loop-document.invariant.lent (still_prepared c.loop-document.run.script.now.items c.loop-document.run.page.now.world c.next_delivery.new.self.world c.in-Ok.ensures.ready c.loop-document.invariant.turns.ready)
    (lifted_run world_in (Ok c.loop-document.least)
    (over_first (λ (script : Script). broadcast script c.args.document.0 c.args.run.now.page.now.world) c.loop-document.invariant.script
    (broadcast_none c.loop-document.invariant.turns (sym (rw c.in_default-next.is at c.in-Ok.ensures.turn)) (ap (λ (page : PageView). page.world) c.in-Ok.ensures.reported) (sym c.loop-document-test.ensures))))

pub returns-in_default-next-clause-least : goal.returns-in_default-next-clause-least
returns-in_default-next-clause-least g c =
    shallowest_is
    (over_first (λ (script : Script). broadcast script c.args.document.0 c.args.run.now.page.now.world) c.loop-document.invariant.script
    (broadcast_none c.loop-document.invariant.turns (sym (rw c.in_default-next.is at c.in-Ok.ensures.turn)) (ap (λ (page : PageView). page.world) c.in-Ok.ensures.reported) (sym c.loop-document-test.ensures)))

pub call_observer-requires-clause-ready : goal.call_observer-requires-clause-ready
call_observer-requires-clause-ready g c = still_prepared c.loop-document.run.script.now.items c.loop-document.run.page.now.world c.next_delivery.new.self.world c.in-Ok.ensures.ready c.loop-document.invariant.turns.ready

pub call_observer-requires-clause-observer : goal.call_observer-requires-clause-observer
call_observer-requires-clause-observer g c =
    let it = c.in-Ok.ensures in
    handed_made c.args.document.0 c.loop-document.place c.loop-document.run.page.now.world c.next_delivery.new.self.world c.in-Some.delivery
    (handed_out _ _ _ _ c.in-Ok.next c.in-Some.delivery c.in-Some.is it.turn it.entries (ap (λ (page : PageView). page.world) it.reported) it.made it.some)

pub call_observer-requires-clause-entries : goal.call_observer-requires-clause-entries
call_observer-requires-clause-entries g c =
    let it = c.in-Ok.ensures in
    handed_entries c.args.document.0 c.loop-document.place c.loop-document.run.page.now.world c.next_delivery.new.self.world c.in-Some.delivery
    (handed_out _ _ _ _ c.in-Ok.next c.in-Some.delivery c.in-Some.is it.turn it.entries (ap (λ (page : PageView). page.world) it.reported) it.made it.some)
    (length (handlers_in c.loop-document.run.script.now.items)) c.loop-document.invariant.turns.ready.range

pub loop-document-smaller : goal.loop-document-smaller
loop-document-smaller g c =
    let it = c.in-Ok.ensures in
    let handed =
    handed_out c.args.document.0 c.loop-document.place c.loop-document.run.page.now.world c.next_delivery.new.self.world c.in-Ok.next c.in-Some.delivery c.in-Some.is it.turn it.entries
    (ap (λ (page : PageView). page.world) it.reported) it.made it.some in
    omega (arith, place_few c.loop-document.invariant.turns, place_past c.loop-document.invariant.turns handed)

pub loop-document-preserved : goal.loop-document-preserved
loop-document-preserved g c =
    let it = c.in-Ok.ensures in
    let handed =
    handed_out c.args.document.0 c.loop-document.place c.loop-document.run.page.now.world c.next_delivery.new.self.world c.in-Ok.next c.in-Some.delivery c.in-Some.is it.turn it.entries
    (ap (λ (page : PageView). page.world) it.reported) it.made it.some in
    let called = c.in_ok-call_observer.ensures in
    record {
      turns =
          rw (called.script, c.shallower-least.ensures)
          (broadcast_on c.loop-document.invariant.turns handed (sym c.loop-document-test.ensures) (c.entries_are_those_of_a_broadcast.ensures.entries (sight_of c.loop-document.run.page.now.world) (active_at c.loop-document.run.page.now.world.resize_observers c.in-Some.delivery.observer.0)) c.least_depth.ensures called.says
          (subst (λ (it : Bor syntax.Script). IsPrepared it.now.items c.call_observer.new.run.page.now.world) called.script called.ready));
      script = called.script ∙ c.loop-document.invariant.script;
      lent = called.lent ∙ c.loop-document.invariant.lent;
    }

pub returns-in_err-call_observer-clause-goes : goal.returns-in_err-call_observer-clause-goes
returns-in_err-call_observer-clause-goes g c =
    let it = c.in-Ok.ensures in
    let handed =
    handed_out c.args.document.0 c.loop-document.place c.loop-document.run.page.now.world c.next_delivery.new.self.world c.in-Ok.next c.in-Some.delivery c.in-Some.is it.turn it.entries
    (ap (λ (page : PageView). page.world) it.reported) it.made it.some in
    let called = c.in_err-call_observer.ensures in
    stopped c.from_residual.result c.in_err-call_observer.field-0.0 c.from_residual.ensures (called.script ∙ c.loop-document.invariant.script) (called.lent ∙ c.loop-document.invariant.lent)
    called.ready
    (lifted_run world_in (Err c.in_err-call_observer.field-0.0)
    (over_first (λ (script : Script). broadcast script c.args.document.0 c.args.run.now.page.now.world) c.loop-document.invariant.script
    (broadcast_cut c.loop-document.invariant.turns handed (sym c.loop-document-test.ensures) (c.entries_are_those_of_a_broadcast.ensures.entries (sight_of c.loop-document.run.page.now.world) (active_at c.loop-document.run.page.now.world.resize_observers c.in-Some.delivery.observer.0)) c.least_depth.ensures c.in_err-call_observer.field-0.0 called.says)))

pub returns-clause-goes : goal.returns-clause-goes
returns-clause-goes g c =
    arrived c.loop-document.invariant.script c.loop-document.invariant.lent c.loop-document.invariant.turns.ready
    (lifted_run world_in (Ok c.loop-document.least)
    (over_first (λ (script : Script). broadcast script c.args.document.0 c.args.run.now.page.now.world) c.loop-document.invariant.script
    (broadcast_left c.loop-document.invariant.turns (sym c.loop-document-test.ensures))))

pub returns-clause-least : goal.returns-clause-least
returns-clause-least g c =
    shallowest_is
    (over_first (λ (script : Script). broadcast script c.args.document.0 c.args.run.now.page.now.world) c.loop-document.invariant.script
    (broadcast_left c.loop-document.invariant.turns (sym c.loop-document-test.ensures)))
