-- The two certificates of a script (this project's own).
use Rattle.std.specs.Prelude.{Bool, true, false, List}
use Rattle.script_model.specs.Syntax.{Action, Viewport, SetRatio, Append, Before, Remove, SetStyle, Grow, Load, ObserveResize, Item}
use Rattle.loop_lint.specs.LoopHandlers.{is_empty, loop_handler_lines}

-- `append`, `before` and `remove`: the commands that can move an element, and so change depths
abbrev pub moves : Action → Bool
moves (Append parent node) = true
moves (Before parent node sibling) = true
moves (Remove node) = true
moves action = false

-- the commands that can move an element, those that can change a size, and the one that makes an observation
abbrev pub disturbs : Action → Bool
disturbs (Viewport width height) = true
disturbs (SetRatio hundredths) = true
disturbs (SetStyle node declaration) = true
disturbs (Grow node dimension by) = true
disturbs (Load node width height) = true
disturbs (ObserveResize observer node observed) = true
disturbs action = moves action

-- no loop handler contains a command that can move an element
unfoldable pub is_steady : List Item → Bool
unfolding loop_handler_lines
is_steady items = is_empty (loop_handler_lines moves items)

-- no loop handler contains a command that can move an element, can change a size or makes an observation
unfoldable pub is_quiet : List Item → Bool
unfolding loop_handler_lines
is_quiet items = is_empty (loop_handler_lines disturbs items)
