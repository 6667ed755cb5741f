-- The syntax of scripts as values. Names are lists of bytes, lengths are in units of 1/64 pixel. Operands are in the order in which
-- they are written in a command's line.
use Rattle.std.specs.Prelude.{ℕ, ℤ, Bool, List, Option}
use Rattle.px_units.specs.declared.BoxKind.{BoxKind}
use Rattle.layout_model.specs.Styles.{Declaration}
use Rattle.text_io.specs.declared.kinds.EventKind.{EventKind}
use Rattle.text_io.specs.declared.kinds.Version.{Version}
use Rattle.script_model.specs.Queries.{MediaQuery}

-- a node by its name, or `$target`, the target of the current entry
pub data Operand : Type 0 where
  Named : (name : List ℕ) → Operand
  Target : Operand

-- what can have listeners: a node, document or query list, or the window of a document
pub data Aim : Type 0 where
  PlainAim : (operand : Operand) → Aim
  WindowAim : (document : List ℕ) → Aim

pub data Dimension : Type 0 where
  WidthDimension : Dimension
  HeightDimension : Dimension

-- the operands of the command that creates an intersection observer. A margin is its words joined by single spaces, the scroll margin
-- is None if it was left out, and thresholds are in ten-thousandths
pub record ObserverMaking : Type 0 where
  pub name : List ℕ
  pub document : List ℕ
  pub handler : Option (List ℕ)
  pub root : Option Operand
  pub margin : List ℕ
  pub scroll : Option (List ℕ)
  pub thresholds : List ℤ

-- a command without a block; a ratio is in hundredths of a percent
pub data Action : Type 0 where
  Viewport : (width height : ℕ) → Action
  SetRatio : (hundredths : ℕ) → Action
  MakeBlock : (name document : List ℕ) → Action
  MakeImage : (name document : List ℕ) (width height : ℕ) → Action
  MakeFrame : (name document inside : List ℕ) → Action
  Append : (parent node : Operand) → Action
  Before : (parent node sibling : Operand) → Action
  Remove : (node : Operand) → Action
  SetStyle : (node : Operand) (declaration : Declaration) → Action
  Grow : (node : Operand) (dimension : Dimension) (by : ℤ) → Action
  Load : (node : Operand) (width height : ℕ) → Action
  MakeResizeObserver : (name document : List ℕ) (handler : Option (List ℕ)) → Action
  ObserveResize : (observer : List ℕ) (node : Operand) (observed : BoxKind) → Action
  UnobserveResize : (observer : List ℕ) (node : Operand) → Action
  DisconnectResize : (observer : List ℕ) → Action
  MakeIntersectionObserver : (making : ObserverMaking) → Action
  ObserveIntersection : (observer : List ℕ) (node : Operand) → Action
  UnobserveIntersection : (observer : List ℕ) (node : Operand) → Action
  DisconnectIntersection : (observer : List ℕ) → Action
  TakeIntersections : (observer : List ℕ) → Action
  Listen : (aim : Aim) (event : EventKind) (handler : List ℕ) → Action
  Unlisten : (aim : Aim) (event : EventKind) (handler : List ℕ) → Action
  MakeQueryList : (name document : List ℕ) (query : List MediaQuery) → Action
  ScrollTo : (target : Operand) (left top : ℤ) → Action
  ScrollBy : (target : Operand) (left top : ℤ) → Action
  RequestFrame : (document key handler : List ℕ) → Action
  CancelFrame : (document key : List ℕ) → Action
  SetTimer : (document key : List ℕ) (delay : ℕ) (handler : List ℕ) → Action
  ClearTimer : (document key : List ℕ) → Action
  Post : (document handler : List ℕ) → Action
  Say : (word : List ℕ) → Action
  Read : (target : Operand) → Action

-- the test of a `when`
pub data Test : Type 0 where
  Wider : (node : Operand) (units : ℕ) → Test
  Taller : (node : Operand) (units : ℕ) → Test
  Matches : (query : List ℕ) → Test
  Attached : (node : Operand) → Test
  Seen : Test

pub record Condition : Type 0 where
  pub negated : Bool
  pub asks : Test

-- commands and blocks of commands; `line` is the line of the command, and `end_line` that of the block's `end`
mutual
  pub data Command : Type 0 where
    Simple : (line : ℕ) (action : Action) → Command
    Each : (line : ℕ) (block : Block) (end_line : ℕ) → Command
    When : (line : ℕ) (condition : Condition) (block : Block) (end_line : ℕ) → Command

  pub data Block : Type 0 where
    NoMore : Block
    Then : (command : Command) (others : Block) → Block

-- an item of a script, outside handlers and blocks
pub data Item : Type 0 where
  Outside : (command : Command) → Item
  Tick : (line time : ℕ) → Item
  Handler : (line : ℕ) (name : List ℕ) (block : Block) (end_line : ℕ) → Item

-- a script: its version, and the items after its first line
pub record Script : Type 0 where
  pub version : Version
  pub items : List Item
