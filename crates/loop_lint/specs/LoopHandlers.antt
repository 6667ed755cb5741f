-- The handlers of resize observers, and the commands in them at any nesting depth (this project's own).
use Rattle.std.specs.Prelude.{◌≡◌, ℕ, Bool, true, false, cond, List, [], ◌∷◌, ◌++◌, flat_map, Some, bytes_eq}
use Rattle.script_model.specs.Syntax.{Action, MakeResizeObserver, Command, Simple, Each, When, Block, NoMore, Then, Item, Outside, Tick, Handler}
use Rattle.script_model.specs.Scripts.{NamedBlock, handlers_in}

unfoldable mutual
  -- the lines of the commands that pass a test, among a command and those in its block, in the order of the text
  pub lines_in : (Action → Bool) → Command → List ℕ
  lines_in test (Simple line action) = cond (test action) (line ∷ []) []
  lines_in test (Each line block end_line) = block_lines test block
  lines_in test (When line condition block end_line) = block_lines test block

  pub block_lines : (Action → Bool) → Block → List ℕ
  block_lines test NoMore = []
  block_lines test (Then command others) = lines_in test command ++ block_lines test others

abbrev pub item_lines : (Action → Bool) → Item → List ℕ
item_lines test (Outside command) = lines_in test command
item_lines test (Tick line time) = []
item_lines test (Handler line name block end_line) = block_lines test block

abbrev pub is_empty : {A : Type 0} → List A → Bool
is_empty [] = true
is_empty (x ∷ xs) = false

-- whether a command creates a resize observer with the handler of this name
abbrev pub names_handler : List ℕ → Action → Bool
names_handler name (MakeResizeObserver observer document (Some handler)) = bytes_eq handler name
names_handler name action = false

-- the lines of the `ro` commands, anywhere in a script, that name a handler
unfoldable pub naming_lines : List Item → List ℕ → List ℕ
unfolding block_lines
naming_lines items name = flat_map (item_lines (names_handler name)) items

-- whether no `ro` command, anywhere in the script, names this handler; a handler that one names is a loop handler
abbrev pub is_unnamed : List Item → List ℕ → Bool
is_unnamed items name = is_empty (naming_lines items name)

-- another script with the same handlers, of which the same ones are loop handlers
pub record HasHandlersOf (items other : List Item) : Type 0 where
  pub same : handlers_in other ≡ handlers_in items
  pub named : (name : List ℕ) → is_unnamed other name ≡ is_unnamed items name

-- the lines of the commands in loop handlers, at any nesting depth, that pass a test, in the order of the text
unfoldable pub loop_handler_lines : (Action → Bool) → List Item → List ℕ
unfolding block_lines naming_lines handlers_in
loop_handler_lines test items =
    flat_map (λ (handler : NamedBlock). cond (is_unnamed items (handler.name)) [] (block_lines test (handler.block))) (handlers_in items)
