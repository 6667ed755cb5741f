-- Commands by what they are, and sizes of blocks: what a walk through commands goes by.
use Rattle.std.proofs.Common.{◌≡◌, ℕ, zero, suc, ◌+◌, ◌<◌, ◌≤◌, List, [], ◌∷◌, get_or, length, ap, arith}
use Rattle.script_model.specs.Syntax.{Simple}
use Rattle.script_syntax.specs.Seen.{action_of, command_at, command_of, block_of, command_size, block_size}
use Rattle.script_syntax.specs.declared.operands.Condition.{Condition}
use Rattle.script_syntax.specs.declared.commands.Action.{Action}
use Rattle.script_syntax.specs.declared.commands.Body.{Body}
use Rattle.script_syntax.specs.declared.commands.Command.{Command}
use Rattle.script_syntax.specs.declared.commands.What.{What}
use Rattle.script_syntax.specs.declared.commands.What.TheVariants as what

-- a command that isn't a block is its action's line
pub simple_is : (line : ℕ) (command : What) (action : Action) → command ≡ what.Act action → command_at line command ≡ Simple line (action_of action)
simple_is line command action is = ap (command_at line) is

-- a block is one smaller than its command, and a command of a list no larger than the list
pub each_size : (line : ℕ) (command : What) (body : Body) → command ≡ what.Each body → command_size (command_at line command) ≡ block_size body.commands + 1
unfolding command_size
each_size line command body is = ap (λ it. command_size (command_at line it)) is

pub when_size : (line : ℕ) (command : What) (condition : Condition) (body : Body) → command ≡ what.When condition body
    → command_size (command_at line command) ≡ block_size body.commands + 1
unfolding command_size
when_size line command condition body is = ap (λ it. command_size (command_at line it)) is

size_at : (commands : List Command) (i : ℕ) (d : Command) → i < length commands
    → command_size (command_of (get_or commands i d)) ≤ block_size (block_of commands)
unfolding block_size
size_at [] i d within = absurd (omega arith)
size_at (c ∷ cs) zero d within = omega arith
size_at (c ∷ cs) (suc i) d within = omega (arith, size_at cs i d (omega arith))

pub size_within : (commands : List Command) (i : ℕ) (d command : Command) → i < length commands → command ≡ get_or commands i d
    → command_size (command_of command) ≤ block_size (block_of commands)
size_within commands i d command within is =
    let same : command_size (command_of command) ≡ command_size (command_of (get_or commands i d)) = ap (λ c. command_size (command_of c)) is in
    omega (arith, size_at commands i d within)
