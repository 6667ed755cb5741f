-- Commands by what they are, and the blocks that a walk goes through.
use Rattle.std.proofs.Common.{◌≡◌, ℕ, ◌+◌, ◌<◌, ◌≤◌, List, length, get_or, drop, refl, ap, sym, subst, ◌∙◌}
use Rattle.std.proofs.lemmas.List.{drop_more, drop_all}
use Rattle.script_model.specs.Syntax.{Block, Then}
use Rattle.script_syntax.specs.Allowed.{WhatAllowed, ActionAllowed, TestAllowed}
use Rattle.script_syntax.specs.Seen.{action_of, command_at, command_of, condition_of, block_of}
use Rattle.script_syntax.specs.declared.operands.Condition.{Condition}
use Rattle.script_syntax.specs.declared.commands.Action.{Action}
use Rattle.script_syntax.specs.declared.commands.Body.{Body}
use Rattle.script_syntax.specs.declared.commands.Command.{Command}
use Rattle.script_syntax.specs.declared.commands.What.{What}
use Rattle.script_syntax.specs.declared.commands.What.TheVariants as what
use Rattle.page_model.specs.Callbacks.{Script, answered, once_begun, said_by, handler_names, run_command, run_block}
use Rattle.page_model.specs.Commands.{does, holds}
use Rattle.page_model.specs.Operands.{Present}
use Rattle.page_model.specs.Runs.{Said, ◌followed_by◌, for_each, only_if, silent}
use Rattle.page_model.specs.World.{World}

-- commands by what they are -----------------------------------------------------------------------------------------------

pub action_allowed : (command : What) (action : Action) → command ≡ what.Act action → WhatAllowed command → ActionAllowed action
action_allowed command action is allowed = subst WhatAllowed is allowed

pub test_allowed : (command : What) (condition : Condition) (body : Body) → command ≡ what.When condition body → WhatAllowed command → TestAllowed condition.asks
test_allowed command condition body is allowed = subst WhatAllowed is allowed

-- what they do ------------------------------------------------------------------------------------------------------------

module _ (script : Script) (entries : List Present) (line : ℕ) (command : What) (present : Present) (world : World) where
  pub simple_does : (action : Action) → command ≡ what.Act action
      → once_begun line world (λ begun. answered line begun said_by (does (handler_names script) begun present (action_of action))) ≡ run_command script entries (command_at line command) present world
  unfolding run_command
  simple_does action is = ap (λ it. run_command script entries (command_at line it) present world) (sym is)

  pub each_does : (body : Body) → command ≡ what.Each body
      → once_begun line world (λ begun. for_each (run_block script entries body.commands) entries begun) ≡ run_command script entries (command_at line command) present world
  unfolding run_command
  each_does body is = ap (λ it. run_command script entries (command_at line it) present world) (sym is)

  pub when_does : (condition : Condition) (body : Body) → command ≡ what.When condition body
      → once_begun line world (λ begun. answered line begun (only_if (run_block script entries body.commands present) begun) (holds begun present (condition_of condition)))
      ≡ run_command script entries (command_at line command) present world
  unfolding run_command
  when_does condition body is = ap (λ it. run_command script entries (command_at line it) present world) (sym is)

-- a command of any kind begins
pub command_begins : (script : Script) (entries : List Present) (line : ℕ) (command : What) (present : Present) (world : World)
    → (run : World → Said World) × (once_begun line world run ≡ run_command script entries (command_at line command) present world)
unfolding run_command
command_begins script entries line (what.Act action) present world =
    (λ begun. answered line begun said_by (does (handler_names script) begun present (action_of action)), refl)
command_begins script entries line (what.Each body) present world = (λ begun. for_each (run_block script entries body.commands) entries begun, refl)
command_begins script entries line (what.When condition body) present world =
    (λ begun. answered line begun (only_if (run_block script entries body.commands present) begun) (holds begun present (condition_of condition)), refl)

-- blocks ------------------------------------------------------------------------------------------------------------------

module _ (commands : List Command) (i : ℕ) (command : Command) (within : i < length commands) (is : command ≡ get_or commands i command) where
  more_is : block_of (drop i commands) ≡ Then (command_of command) (block_of (drop (i + 1) commands))
  more_is = ap block_of (drop_more commands i command within) ∙ ap (λ it. Then (command_of it) (block_of (drop (i + 1) commands))) (sym is)

  -- a command more of a block
  pub block_more : (script : Script) (entries : List Present) (present : Present) (world : World)
      → run_block script entries (block_of (drop i commands)) present world
      ≡ run_command script entries (command_of command) present world followed_by run_block script entries (block_of (drop (i + 1) commands)) present
  unfolding run_block
  block_more script entries present world = ap (λ block. run_block script entries block present world) more_is

-- no command is left
pub block_none : (commands : List Command) (i : ℕ) (script : Script) (entries : List Present) (present : Present) (world : World) → length commands ≤ i
    → run_block script entries (block_of (drop i commands)) present world ≡ silent world
unfolding run_block
block_none commands i script entries present world past = ap (λ rest. run_block script entries (block_of rest) present world) (drop_all i commands past)

-- the same block in other words
pub block_same : (script : Script) (entries : List Present) (present : Present) (world : World) {block other : Block} → other ≡ block
    → run_block script entries block present world ≡ run_block script entries other present world
block_same script entries present world same = ap (λ it. run_block script entries it present world) (sym same)
