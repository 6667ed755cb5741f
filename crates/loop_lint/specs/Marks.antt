-- The handlers that `ro` commands name, marked by their numbers.
use Rattle.std.specs.Prelude.{◌≡◌, ◌<◌, ℕ, Bool, true, false, not, List, [], ◌∷◌, ◌++◌, fold, get_or, length, slice_set, Option, Some, None}
use Rattle.script_model.specs.Syntax.{Action, MakeResizeObserver, Command, Simple, Each, When, Block, NoMore, Then, Item, Outside, Tick, Handler}
use Rattle.script_model.specs.Scripts.{handler_number}
use Rattle.loop_lint.specs.LoopHandlers.{is_unnamed}

-- the handler that a command names, if it is an `ro`
abbrev pub named_by : Action → List (List ℕ)
named_by (MakeResizeObserver observer document (Some handler)) = handler ∷ []
named_by action = []

unfoldable mutual
  -- the handlers that the `ro` commands among a command and those in its block name, in the order of the text
  pub named_in : Command → List (List ℕ)
  named_in (Simple line action) = named_by action
  named_in (Each line block end_line) = named_in_block block
  named_in (When line condition block end_line) = named_in_block block

  pub named_in_block : Block → List (List ℕ)
  named_in_block NoMore = []
  named_in_block (Then command others) = named_in command ++ named_in_block others

abbrev pub named_in_item : Item → List (List ℕ)
named_in_item (Outside command) = named_in command
named_in_item (Tick line time) = []
named_in_item (Handler line name block end_line) = named_in_block block

-- a handler is marked by its number, if there is one of this name and a place for it
abbrev pub mark_at : List Bool → Option ℕ → List Bool
mark_at marks None = marks
mark_at marks (Some number) = slice_set marks number true

abbrev pub mark : List Item → List Bool → List ℕ → List Bool
mark items marks name = mark_at marks (handler_number items name)

unfoldable pub marked : List Item → List Bool → List (List ℕ) → List Bool
unfolding handler_number
marked items marks names = fold (mark items) marks names

-- by its number, a handler is marked exactly if an `ro` command anywhere in the script names it
abbrev pub AreMarked : List Item → List Bool → Type 0
AreMarked items marks =
    (name : List ℕ) (number : ℕ) → handler_number items name ≡ Some number → number < length marks → get_or marks number false ≡ not (is_unnamed items name)
