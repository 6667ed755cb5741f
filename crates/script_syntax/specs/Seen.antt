-- What the types of scripts stand for in the definitions. Lengths without a sign are given by their absolute values; specs/Allowed.antt
-- says which lengths are never negative.
use Rattle.std.specs.Prelude.{ℕ, ◌+◌, Bool, true, false, List, [], ◌∷◌, option_map, unsigned_abs}
use Rattle.style_values.specs.Seen.{seen_axis, seen_declaration}
use Rattle.script_model.specs.Syntax as model
use Rattle.script_model.specs.Scripts.{NamedBlock}
use Rattle.script_syntax.specs.declared.operands.Operand.{Operand}
use Rattle.script_syntax.specs.declared.operands.Operand.TheVariants as operand
use Rattle.script_syntax.specs.declared.operands.Aim.{Aim}
use Rattle.script_syntax.specs.declared.operands.Aim.TheVariants as aim
use Rattle.script_syntax.specs.declared.operands.IoMaking.{IoMaking}
use Rattle.script_syntax.specs.declared.operands.Test.{Test}
use Rattle.script_syntax.specs.declared.operands.Test.TheVariants as test
use Rattle.script_syntax.specs.declared.operands.Condition.{Condition}
use Rattle.script_syntax.specs.declared.commands.Action.{Action}
use Rattle.script_syntax.specs.declared.commands.Action.TheVariants as action
use Rattle.script_syntax.specs.declared.commands.What.{What}
use Rattle.script_syntax.specs.declared.commands.What.TheVariants as what
use Rattle.script_syntax.specs.declared.commands.Command.{Command}
use Rattle.script_syntax.specs.declared.commands.Handler.{Handler}
use Rattle.script_syntax.specs.declared.commands.Item.{Item}
use Rattle.script_syntax.specs.declared.commands.Item.TheVariants as item

abbrev pub operand_of : Operand → model.Operand
operand_of (operand.Named name) = model.Named name
operand_of operand.Target = model.Target

abbrev pub aim_of : Aim → model.Aim
aim_of (aim.Plain operand) = model.PlainAim (operand_of operand)
aim_of (aim.Window document) = model.WindowAim document

abbrev pub making_of : IoMaking → model.ObserverMaking
making_of making = record {
  name = making.name;
  document = making.document;
  handler = making.handler;
  root = option_map operand_of making.root;
  margin = making.margin;
  scroll = making.scroll;
  thresholds = making.thresholds;
}

abbrev pub test_of : Test → model.Test
test_of (test.Wider node px) = model.Wider (operand_of node) (unsigned_abs px.0)
test_of (test.Taller node px) = model.Taller (operand_of node) (unsigned_abs px.0)
test_of (test.Matches query) = model.Matches query
test_of (test.Attached node) = model.Attached (operand_of node)
test_of test.Seen = model.Seen

abbrev pub condition_of : Condition → model.Condition
condition_of condition = record { negated = condition.negated; asks = test_of condition.asks }

abbrev pub action_of : Action → model.Action
action_of (action.Viewport size) = model.Viewport (unsigned_abs size.width) (unsigned_abs size.height)
action_of (action.Ratio percent) = model.SetRatio (unsigned_abs percent.0)
action_of (action.Block name document) = model.MakeBlock name document
action_of (action.Image name document size) =
    model.MakeImage name document (unsigned_abs size.width) (unsigned_abs size.height)
action_of (action.Frame name document inside) = model.MakeFrame name document inside
action_of (action.Append parent node) = model.Append (operand_of parent) (operand_of node)
action_of (action.Before parent node sibling) =
    model.Before (operand_of parent) (operand_of node) (operand_of sibling)
action_of (action.Remove node) = model.Remove (operand_of node)
action_of (action.Set node declaration) = model.SetStyle (operand_of node) (seen_declaration declaration)
action_of (action.Grow node axis by) = model.Grow (operand_of node) (seen_axis axis) by.0
action_of (action.Load node size) = model.Load (operand_of node) (unsigned_abs size.width) (unsigned_abs size.height)
action_of (action.Ro name document handler) = model.MakeResizeObserver name document handler
action_of (action.RoObserve observer node observed) = model.ObserveResize observer (operand_of node) observed
action_of (action.RoUnobserve observer node) = model.UnobserveResize observer (operand_of node)
action_of (action.RoDisconnect observer) = model.DisconnectResize observer
action_of (action.Io making) = model.MakeIntersectionObserver (making_of making)
action_of (action.IoObserve observer node) = model.ObserveIntersection observer (operand_of node)
action_of (action.IoUnobserve observer node) = model.UnobserveIntersection observer (operand_of node)
action_of (action.IoDisconnect observer) = model.DisconnectIntersection observer
action_of (action.IoTake observer) = model.TakeIntersections observer
action_of (action.Listen aim event handler) = model.Listen (aim_of aim) event handler
action_of (action.Unlisten aim event handler) = model.Unlisten (aim_of aim) event handler
action_of (action.Media name document query) = model.MakeQueryList name document query
action_of (action.Scroll node to) = model.ScrollTo (operand_of node) to.left to.top
action_of (action.ScrollBy node by) = model.ScrollBy (operand_of node) by.left by.top
action_of (action.Raf document key handler) = model.RequestFrame document key handler
action_of (action.CancelRaf document key) = model.CancelFrame document key
action_of (action.Timer document key delay handler) = model.SetTimer document key delay handler
action_of (action.ClearTimer document key) = model.ClearTimer document key
action_of (action.Post document handler) = model.Post document handler
action_of (action.Say word) = model.Say word
action_of (action.Read node) = model.Read (operand_of node)

abbrev pub command_at : ℕ → What → model.Command
command_at line (what.Act action) = model.Simple line (action_of action)
command_at line (what.Each body) = model.Each line body.commands body.end_line
command_at line (what.When condition body) =
    model.When line (condition_of condition) body.commands body.end_line

abbrev pub command_of : Command → model.Command
command_of command = command_at command.line command.what

abbrev pub block_of : List Command → model.Block
block_of [] = model.NoMore
block_of (command ∷ commands) = model.Then (command_of command) (block_of commands)

-- a handler as an item, and as a block with a name
abbrev pub handler_item : Handler → model.Item
handler_item handler = model.Handler handler.line handler.name handler.commands handler.end_line

abbrev pub handler_of : Handler → NamedBlock
handler_of handler = record { name = handler.name; block = handler.commands }

abbrev pub item_of : Item → model.Item
item_of (item.Command command) = model.Outside (command_of command)
item_of (item.Tick line time) = model.Tick line time
item_of (item.Handler handler) = handler_item handler

abbrev pub is_handler : model.Item → Bool
is_handler (model.Outside command) = false
is_handler (model.Tick line time) = false
is_handler (model.Handler line name block end_line) = true

-- the sizes of commands and blocks, by which a walk through a block terminates
unfoldable mutual
  pub command_size : model.Command → ℕ
  command_size (model.Simple line action) = 1
  command_size (model.Each line block end_line) = block_size block + 1
  command_size (model.When line condition block end_line) = block_size block + 1

  pub block_size : model.Block → ℕ
  block_size model.NoMore = 0
  block_size (model.Then command others) = command_size command + block_size others
