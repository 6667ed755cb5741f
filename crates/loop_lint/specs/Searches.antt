-- What is searched for among the commands of a script.
use Rattle.std.specs.Prelude.{ℕ, Bool, cond, List, []}
use Rattle.script_model.specs.Syntax.{Action, Item, Outside, Tick, Handler}
use Rattle.loop_lint.specs.declared.search.Sought.{Sought}
use Rattle.loop_lint.specs.declared.search.Sought.TheVariants as sought
use Rattle.loop_lint.specs.LoopHandlers.{names_handler, is_unnamed, block_lines}
use Rattle.loop_lint.specs.Seen.{forbidden_by}

abbrev pub is_sought : Sought → Action → Bool
is_sought (sought.Naming name) action = names_handler name action
is_sought (sought.Forbidden law) action = forbidden_by law action

-- the lines of the commands in an item that pass a test, if the item is a loop handler
abbrev pub lines_at : (Action → Bool) → List Item → Item → List ℕ
lines_at test items (Outside command) = []
lines_at test items (Tick line time) = []
lines_at test items (Handler line name block end_line) = cond (is_unnamed items name) [] (block_lines test block)
