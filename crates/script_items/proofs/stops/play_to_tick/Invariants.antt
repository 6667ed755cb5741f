use Rattle.std.proofs.Common.{◌≡◌, ◌+◌, drop, map}
use Rattle.script_model.specs.Scripts.{handlers_in}
use Rattle.script_syntax.specs.Seen.{item_of}
use Rattle.page_model.specs.Outcome.{run_item}
use Rattle.page_model.specs.Runs.{for_each}
use Rattle.trace_runs.proofs.Following.{Following}
use Rattle.handlers.specs.Runs.{IsHeld}
use Rattle.frame_update.specs.Ready.{IsReady}
use Rattle.script_items.specs.Stops.{tick_count, to_tick}
use Rattle.script_items.proofs.stops.play_to_tick.Given as goal

-- the items up to here were run, and those from here on are to be run up to as many ticks as are left
abbrev pub invariant-loop-item : goal.invariant-loop-item
invariant-loop-item g l = record {
  following : Following (g.K.Sink.taken l.fn.run.sink.now) (g.K.Sink.taken l.run.sink.now) (g.K.Sink.faults l.fn.run.sink.now) (g.K.Sink.faults l.run.sink.now)
      (for_each (run_item (handlers_in l.fn.run.script.now.items)) (to_tick l.number l.fn.run.script.now.items) l.fn.run.page.now.world)
      (for_each (run_item (handlers_in l.fn.run.script.now.items)) (to_tick l.left (map item_of (drop l.item-index l.item-items))) l.run.page.now.world);
  ready : IsReady l.fn.run.script.now.items l.run.page.now.world;
  counted : l.left + tick_count l.fn.run.script.now.items ≡ l.number + tick_count (map item_of (drop l.item-index l.item-items));
  held : IsHeld l.fn.run l.run;
}
