use Rattle.std.proofs.Common.{◌+◌, ◌*◌}
use Rattle.script_syntax.specs.Seen.{command_of, block_of, command_size, block_size}
use Rattle.loop_lint.specs.LoopHandlers.{lines_in}
use Rattle.loop_lint.specs.Searches.{is_sought}
use Rattle.loop_lint.proofs.Searching.{IsSearched}
use Rattle.loop_lint.proofs.search.+walk.Given as goal

abbrev pub decreases-first_in_command : goal.decreases-first_in_command
decreases-first_in_command l = 2 * command_size (command_of l.command.now)

abbrev pub decreases-first_in : goal.decreases-first_in
decreases-first_in l = 2 * block_size (block_of l.commands.now) + 1

abbrev pub invariant-first_in-loop-command : goal.invariant-first_in-loop-command
invariant-first_in-loop-command l = IsSearched (λ command. lines_in (is_sought l.sought) (command_of command)) l.commands l.command-index
