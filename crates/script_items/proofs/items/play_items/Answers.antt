use Rattle.page_model.specs.Outcome.{run_item}
use Rattle.std.proofs.Common.{arith, refl}
use Rattle.page_model.specs.Callbacks.{Script}
use Rattle.script_syntax.specs.Seen.{item_of}
use Rattle.handlers.proofs.Held.{held_first, held_on, over_first}
use Rattle.trace_runs.proofs.Following.{begin, rest_same, go_on, end_cut, done}
use Rattle.trace_runs.proofs.Loops.{each_more, each_none}
use Rattle.script_items.proofs.Playing.{items_are}
use Rattle.script_items.proofs.Ready.{ready_over, ready_still}
use Rattle.script_items.proofs.Stopped.{stopped_run}
use Rattle.script_items.proofs.items.play_items.Goals as goal

pub loop-item-init : goal.loop-item-init
loop-item-init g c =
    record {
      following = rest_same (items_are _ c.args.items.now _) begin;
      ready = c.requires.ready;
      held = held_first;
    }

pub loop-item-preserved : goal.loop-item-preserved
loop-item-preserved g c =
    record {
      following =
          go_on _ refl
          (rest_same (each_more _ c.args.items.now c.loop-item.item-index _ _ (omega arith) c.item-item.is) c.loop-item.invariant.following)
          (over_first (λ (script : Script). run_item script (item_of c.item-item.result) c.loop-item.run.page.now.world) c.loop-item.invariant.held.script c.in_ok-run_item.ensures.says);
      ready = ready_over c.run_item.new.run.page.now.world c.loop-item.invariant.held.script c.in_ok-run_item.ensures.ready;
      held = held_on c.loop-item.invariant.held c.in_ok-run_item.ensures.held;
    }

pub returns-in_err-run_item-clause-says : goal.returns-in_err-run_item-clause-says
returns-in_err-run_item-clause-says g c =
    stopped_run c.from_residual.result c.in_err-run_item.field-0.0 c.from_residual.ensures
    (end_cut c.in_err-run_item.field-0.0 _
    (rest_same (each_more _ c.args.items.now c.loop-item.item-index _ _ (omega arith) c.item-item.is) c.loop-item.invariant.following)
    (over_first (λ (script : Script). run_item script (item_of c.item-item.result) c.loop-item.run.page.now.world) c.loop-item.invariant.held.script c.in_err-run_item.ensures.says))

pub returns-clause-says : goal.returns-clause-says
returns-clause-says g c =
    done refl (rest_same (each_none _ c.args.items.now c.loop-item.item-index _ (omega arith)) c.loop-item.invariant.following)

pub run_item-requires-clause-ready : goal.run_item-requires-clause-ready
run_item-requires-clause-ready g c = ready_still c.loop-item.run.page.now.world c.loop-item.invariant.held.script c.loop-item.invariant.ready

pub returns-in_err-run_item-clause-ready : goal.returns-in_err-run_item-clause-ready
returns-in_err-run_item-clause-ready g c = ready_over c.run_item.new.run.page.now.world c.loop-item.invariant.held.script c.in_err-run_item.ensures.ready

pub returns-in_err-run_item-clause-held : goal.returns-in_err-run_item-clause-held
returns-in_err-run_item-clause-held g c = held_on c.loop-item.invariant.held c.in_err-run_item.ensures.held
