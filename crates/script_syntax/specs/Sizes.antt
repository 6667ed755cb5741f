-- A block is larger than each block in it.
use Rattle.std.proofs.Common.{ℕ, ◌≤◌, List, [], ◌∷◌, arith, max}
use denote.Param.Weighed.{most}
use Rattle.script_syntax.specs.Seen.{block_of, block_size, command_size, command_at}
use Rattle.script_syntax.specs.declared.commands.What.{What}
use Rattle.script_syntax.specs.declared.commands.What.TheVariants.{Act, Each, When}
use Rattle.script_syntax.specs.declared.commands.Command.{Command}
use Rattle.script_syntax.specs.declared.commands.CommandList.TheInside.{Inside}
use Rattle.script_syntax.specs.declared.commands.CommandList.TheDeep.{deep-Command, deep-What}

what_is_smaller : (line : ℕ) (what : What) → deep-What what ≤ command_size (command_at line what)
unfolding command_size block_size
what_is_smaller line (Act action) = omega arith
what_is_smaller line (Each body) = omega arith
what_is_smaller line (When condition body) = omega arith

commands_are_smaller_in : (commands : List Command) → most deep-Command commands ≤ block_size (block_of commands)
unfolding command_size block_size
commands_are_smaller_in [] = omega arith
commands_are_smaller_in (command ∷ commands) =
    omega (arith, commands_are_smaller_in commands, what_is_smaller command.line command.what)

pub commands_are_smaller : (list : Inside) → max (most deep-Command list.commands.items) 0 ≤ block_size (block_of list.commands.items)
commands_are_smaller list = omega (arith, commands_are_smaller_in list.commands.items)
