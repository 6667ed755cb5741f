use Rattle.std.proofs.Common.{◌≡◌, ◌+◌, ◌*◌, ◌++◌, drop}
use Rattle.script_syntax.specs.Seen.{command_of, block_of, command_size, block_size}
use Rattle.script_text.specs.NumberedLines.{command_lines}
use Rattle.script_text.specs.ScriptText.{lines_text}
use Rattle.script_print.specs.LastNumber.{last_number}
use Rattle.script_print.proofs.Blocks.{lines_of}
use Rattle.script_print.proofs.lines.+lines.Given as goal

abbrev pub decreases-push_command : goal.decreases-push_command
decreases-push_command l = 3 * command_size (command_of l.command.now)

abbrev pub decreases-push_body : goal.decreases-push_body
decreases-push_body l = 3 * block_size l.body.now.commands + 2

abbrev pub decreases-push_commands : goal.decreases-push_commands
decreases-push_commands l = 3 * block_size (block_of l.commands.now) + 1

abbrev pub invariant-push_commands-loop-command : goal.invariant-push_commands-loop-command
invariant-push_commands-loop-command l = record {
  text : l.into.items ++ lines_text l.last (lines_of (λ command. command_lines (command_of command)) (drop l.command-index l.commands))
      ≡ l.fn.into.items ++ lines_text l.after (lines_of (λ command. command_lines (command_of command)) l.commands);
  last : last_number l.last (lines_of (λ command. command_lines (command_of command)) (drop l.command-index l.commands))
      ≡ last_number l.after (lines_of (λ command. command_lines (command_of command)) l.commands);
}
