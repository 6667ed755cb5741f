-- The commands and the handlers of a script. Handlers are numbered from 0 in the order of their lines.
use Rattle.std.specs.Prelude.{ℕ, ◌+◌, cond, List, [], ◌∷◌, Option, Some, None, option_map, bytes_eq}
use Rattle.script_model.specs.Syntax.{Command, Simple, Each, When, Block, NoMore, Then, Item, Outside, Tick, Handler}

unfoldable mutual
  -- counts a command and those in its block
  pub commands_in : Command → ℕ
  commands_in (Simple line action) = 1
  commands_in (Each line block end_line) = 1 + block_commands block
  commands_in (When line condition block end_line) = 1 + block_commands block

  pub block_commands : Block → ℕ
  block_commands NoMore = 0
  block_commands (Then command others) = commands_in command + block_commands others

abbrev pub item_commands : Item → ℕ
item_commands (Outside command) = commands_in command
item_commands (Tick line time) = 1
item_commands (Handler line name block end_line) = block_commands block

-- the number of commands of a script, including those in handlers and blocks
unfoldable pub command_count : List Item → ℕ
unfolding commands_in block_commands
command_count [] = 0
command_count (item ∷ items) = item_commands item + command_count items

pub record NamedBlock : Type 0 where
  pub name : List ℕ
  pub block : Block

unfoldable pub handlers_in : List Item → List NamedBlock
handlers_in [] = []
handlers_in (Outside command ∷ items) = handlers_in items
handlers_in (Tick line time ∷ items) = handlers_in items
handlers_in (Handler line name block end_line ∷ items) = record { name = name; block = block } ∷ handlers_in items

-- the index of the first one with this name
unfoldable pub number_in : List NamedBlock → List ℕ → Option ℕ
number_in [] name = None
number_in (h ∷ hs) name = cond (bytes_eq name h.name) (Some 0) (option_map (λ number. number + 1) (number_in hs name))

unfoldable pub handler_number : List Item → List ℕ → Option ℕ
unfolding handlers_in number_in
handler_number items name = number_in (handlers_in items) name
