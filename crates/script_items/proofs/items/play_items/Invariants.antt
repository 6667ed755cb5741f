use Rattle.std.proofs.Common.{drop, map}
use Rattle.script_model.specs.Scripts.{handlers_in}
use Rattle.script_syntax.specs.Seen.{item_of}
use Rattle.script_syntax.specs.declared.commands.Item.{Item}
use Rattle.page_model.specs.Outcome.{run_item}
use Rattle.page_model.specs.Runs.{for_each}
use Rattle.trace_runs.proofs.Following.{Following}
use Rattle.handlers.specs.Runs.{IsHeld}
use Rattle.frame_update.specs.Ready.{IsReady}
use Rattle.script_items.proofs.items.play_items.Given as goal

-- the items up to here were run, and those from here on are to be run
abbrev pub invariant-loop-item : goal.invariant-loop-item
invariant-loop-item g l = record {
  following : Following (g.K.Sink.taken l.fn.run.sink.now) (g.K.Sink.taken l.run.sink.now) (g.K.Sink.faults l.fn.run.sink.now) (g.K.Sink.faults l.run.sink.now)
      (for_each (run_item (handlers_in l.fn.run.script.now.items)) (map item_of l.items) l.fn.run.page.now.world)
      (for_each (λ (item : Item). run_item (handlers_in l.fn.run.script.now.items) (item_of item)) (drop l.item-index l.items) l.run.page.now.world);
  ready : IsReady l.fn.run.script.now.items l.run.page.now.world;
  held : IsHeld l.fn.run l.run;
}
