use Rattle.std.proofs.Common.{◌+◌, ◌*◌}
use Rattle.script_syntax.specs.Seen.{command_of, block_of, command_size, block_size}
use Rattle.loop_lint.specs.Marks.{named_in}
use Rattle.loop_lint.proofs.Marking.{IsMarkedTo}
use Rattle.loop_lint.proofs.marks.+marking.Given as goal

abbrev pub decreases-mark_command : goal.decreases-mark_command
decreases-mark_command l = 2 * command_size (command_of l.command.now)

abbrev pub decreases-mark_commands : goal.decreases-mark_commands
decreases-mark_commands l = 2 * block_size (block_of l.commands.now) + 1

abbrev pub invariant-mark_commands-loop-command : goal.invariant-mark_commands-loop-command
invariant-mark_commands-loop-command l = IsMarkedTo l.script.items (λ command. named_in (command_of command)) l.commands l.fn.marks l.command-index l.marks
