use Rattle.std.proofs.Common.{◌≡◌, ◌+◌, ◌*◌, drop}
use Rattle.script_model.specs.Scripts.{block_commands}
use Rattle.script_syntax.specs.Seen.{command_of, block_of, command_size, block_size}
use Rattle.run_replies.proofs.check.+counting.Given as goal

abbrev pub decreases-count_command : goal.decreases-count_command
decreases-count_command l = 2 * command_size (command_of l.command.now)

abbrev pub decreases-count_commands : goal.decreases-count_commands
decreases-count_commands l = 2 * block_size (block_of l.commands.now) + 1

-- those up to here were counted, and those from here on are left
abbrev pub invariant-count_commands-loop-command : goal.invariant-count_commands-loop-command
invariant-count_commands-loop-command l =
    l.count + block_commands (block_of (drop l.command-index l.commands)) ≡ block_commands (block_of l.commands)
