use Rattle.std.proofs.Common.{◌+◌, ap, arith, refl, sym}
use Rattle.script_model.specs.Scripts.{handlers_in}
use Rattle.page_model.specs.Outcome.{run_item}
use Rattle.page_model.specs.Callbacks.{Script}
use Rattle.script_syntax.specs.Seen.{item_of}
use Rattle.handlers.proofs.Held.{held_first, held_on, over_first}
use Rattle.trace_runs.proofs.Following.{begin, rest_same, go_on, end_cut, done}
use Rattle.script_items.specs.Stops.{tick_count}
use Rattle.script_items.proofs.Ready.{ready_over, ready_still}
use Rattle.script_items.proofs.Stopped.{stopped_run}
use Rattle.script_items.proofs.Stopping.{all_here, none_left, no_items, one_more, ticks_more, ticks_none}
use Rattle.script_items.proofs.stops.play_to_tick.Goals as goal

pub loop-item-init : goal.loop-item-init
loop-item-init g c =
    record {
      following = rest_same (all_here (run_item (handlers_in c.args.run.now.script.now.items)) c.args.number c.items-item-items.result.now c.args.run.now.script.now.items _ c.items-item-items.ensures.value) begin;
      ready = c.requires;
      held = held_first;
      counted = ap (λ items. c.args.number + tick_count items) (sym c.items-item-items.ensures.value);
    }

pub loop-item-preserved : goal.loop-item-preserved
loop-item-preserved g c =
    let more = ticks_more c.items-item-items.result.now c.loop-item.item-index _ (omega arith) c.item-item.is in
    let less = c.ticks_in-left.ensures.value in
    let most = c.ticks_in-left.ensures.bound in
    record {
      following =
          go_on _ refl
          (rest_same (one_more (run_item (handlers_in c.args.run.now.script.now.items)) c.loop-item.left c.ticks_in-left.result c.items-item-items.result.now c.loop-item.item-index _ _ (omega arith)
          c.item-item.is c.if-left-eq0.false less) c.loop-item.invariant.following)
          (over_first (λ (script : Script). run_item script (item_of c.item-item.result) c.loop-item.run.page.now.world) c.loop-item.invariant.held.script c.in_ok-run_item.ensures.says);
      ready = ready_over c.run_item.new.run.page.now.world c.loop-item.invariant.held.script c.in_ok-run_item.ensures.ready;
      held = held_on c.loop-item.invariant.held c.in_ok-run_item.ensures.held;
      counted = omega (arith, c.loop-item.invariant.counted, more, less, most);
    }

pub returns-in_err-run_item-clause-says : goal.returns-in_err-run_item-clause-says
returns-in_err-run_item-clause-says g c =
    stopped_run c.from_residual.result c.in_err-run_item.field-0.0 c.from_residual.ensures
    (end_cut c.in_err-run_item.field-0.0 _
    (rest_same (one_more (run_item (handlers_in c.args.run.now.script.now.items)) c.loop-item.left _ c.items-item-items.result.now c.loop-item.item-index _ _ (omega arith) c.item-item.is
    c.if-left-eq0.false refl) c.loop-item.invariant.following)
    (over_first (λ (script : Script). run_item script (item_of c.item-item.result) c.loop-item.run.page.now.world) c.loop-item.invariant.held.script c.in_err-run_item.ensures.says))

pub returns-then-left-eq0-clause-says : goal.returns-then-left-eq0-clause-says
returns-then-left-eq0-clause-says g c =
    done refl (rest_same (none_left (run_item (handlers_in c.args.run.now.script.now.items)) c.loop-item.left _ _ c.if-left-eq0.true) c.loop-item.invariant.following)

pub returns-then-left-eq0-clause-lacking : goal.returns-then-left-eq0-clause-lacking
returns-then-left-eq0-clause-lacking g c = omega (arith, c.loop-item.invariant.counted, c.if-left-eq0.true)

pub returns-clause-says : goal.returns-clause-says
returns-clause-says g c =
    done refl
    (rest_same (no_items (run_item (handlers_in c.args.run.now.script.now.items)) c.loop-item.left c.items-item-items.result.now c.loop-item.item-index _ (omega arith)) c.loop-item.invariant.following)

pub returns-clause-lacking : goal.returns-clause-lacking
returns-clause-lacking g c =
    let none = ticks_none c.items-item-items.result.now c.loop-item.item-index (omega arith) in
    omega (arith, c.loop-item.invariant.counted, none)

pub run_item-requires-clause-ready : goal.run_item-requires-clause-ready
run_item-requires-clause-ready g c = ready_still c.loop-item.run.page.now.world c.loop-item.invariant.held.script c.loop-item.invariant.ready

pub returns-in_err-run_item-clause-ready : goal.returns-in_err-run_item-clause-ready
returns-in_err-run_item-clause-ready g c = ready_over c.run_item.new.run.page.now.world c.loop-item.invariant.held.script c.in_err-run_item.ensures.ready

pub returns-in_err-run_item-clause-held : goal.returns-in_err-run_item-clause-held
returns-in_err-run_item-clause-held g c = held_on c.loop-item.invariant.held c.in_err-run_item.ensures.held
