use Rattle.std.proofs.Common.{◌+◌, ◌*◌, drop, length}
use Rattle.script_model.specs.Scripts.{handlers_in}
use Rattle.script_syntax.specs.Seen.{command_of, block_of, command_size, block_size}
use Rattle.page_model.specs.Callbacks.{presents, run_block}
use Rattle.page_model.specs.Runs.{for_each}
use Rattle.page_laws.specs.Ready.{IsReadyFor}
use Rattle.trace_runs.proofs.Following.{Following}
use Rattle.handlers.specs.Entries.{entries_of, present_at, AreIn}
use Rattle.handlers.specs.Runs.{IsHeld}
use Rattle.handlers.proofs.commands.+blocks.Given as goal

abbrev pub decreases-run_command : goal.decreases-run_command
decreases-run_command g l = 3 * command_size (command_of l.command.now)

abbrev pub decreases-run_each : goal.decreases-run_each
decreases-run_each g l = 3 * block_size l.block.now + 2

abbrev pub decreases-run_when : goal.decreases-run_when
decreases-run_when g l = 3 * block_size l.block.now + 2

abbrev pub decreases-run_block : goal.decreases-run_block
decreases-run_block g l = 3 * block_size l.block.now + 1

-- the block was run for the entries up to here, and is to be run for those from here on
abbrev pub invariant-run_each-loop-place : goal.invariant-run_each-loop-place
invariant-run_each-loop-place g l = record {
  following : Following (g.K.Sink.taken l.fn.run.sink.now) (g.K.Sink.taken l.run.sink.now) (g.K.Sink.faults l.fn.run.sink.now) (g.K.Sink.faults l.run.sink.now)
      (for_each (run_block (handlers_in l.fn.run.script.now.items) (presents (entries_of l.entries)) l.block) (presents (entries_of l.entries)) l.fn.run.page.now.world)
      (for_each (run_block (handlers_in l.fn.run.script.now.items) (presents (entries_of l.entries)) l.block) (drop l.place (presents (entries_of l.entries))) l.run.page.now.world);
  targets : AreIn l.run.page.now.world (presents (entries_of l.entries));
  ready : IsReadyFor (length (handlers_in l.fn.run.script.now.items)) l.fn.run.page.now.world → IsReadyFor (length (handlers_in l.fn.run.script.now.items)) l.run.page.now.world;
  held : IsHeld l.fn.run l.run;
}

-- the commands up to here were run, and those from here on are to be run
abbrev pub invariant-run_block-loop-command : goal.invariant-run_block-loop-command
invariant-run_block-loop-command g l = record {
  following : Following (g.K.Sink.taken l.fn.run.sink.now) (g.K.Sink.taken l.run.sink.now) (g.K.Sink.faults l.fn.run.sink.now) (g.K.Sink.faults l.run.sink.now)
      (run_block (handlers_in l.fn.run.script.now.items) (presents (entries_of l.entries)) l.block (present_at (presents (entries_of l.entries)) l.subject) l.fn.run.page.now.world)
      (run_block (handlers_in l.fn.run.script.now.items) (presents (entries_of l.entries)) (block_of (drop l.command-index l.command-items)) (present_at (presents (entries_of l.entries)) l.subject) l.run.page.now.world);
  targets : AreIn l.run.page.now.world (presents (entries_of l.entries));
  ready : IsReadyFor (length (handlers_in l.fn.run.script.now.items)) l.fn.run.page.now.world → IsReadyFor (length (handlers_in l.fn.run.script.now.items)) l.run.page.now.world;
  held : IsHeld l.fn.run l.run;
}
