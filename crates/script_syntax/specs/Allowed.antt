-- The ranges of a command's numbers: lengths without a sign are from 0 to 1,000,000 CSS pixels, those with one from -1,000,000 to
-- 1,000,000, percentages are from 0 to 10,000 percent, in hundredths, and times are at most 1,000,000,000,000 milliseconds. These bounds
-- are this project's own choice.
use Rattle.std.specs.Prelude.{ℕ, ℤ, pos, negsuc, ◌≤◌, ◌≤ℤ◌}
use Rattle.style_values.specs.Ranges as style
use Rattle.px_units.specs.declared.Size.{Size}
use Rattle.px_units.specs.declared.Point.{Point}
use Rattle.script_syntax.specs.declared.operands.Test.{Test}
use Rattle.script_syntax.specs.declared.operands.Test.TheVariants as test
use Rattle.script_syntax.specs.declared.commands.Action.{Action}
use Rattle.script_syntax.specs.declared.commands.Action.TheVariants as action
use Rattle.script_syntax.specs.declared.commands.What.{What}
use Rattle.script_syntax.specs.declared.commands.What.TheVariants as what
use Rattle.script_syntax.specs.declared.commands.Command.{Command}
use Rattle.script_syntax.specs.declared.commands.Item.{Item}
use Rattle.script_syntax.specs.declared.commands.Item.TheVariants as item

abbrev pub IsUnits : ℤ → Type 0
IsUnits units = (pos 0 ≤ℤ units) × (units ≤ℤ pos 64000000)

abbrev pub IsSignedUnits : ℤ → Type 0
IsSignedUnits units = (negsuc 63999999 ≤ℤ units) × (units ≤ℤ pos 64000000)

abbrev pub IsSize : Size → Type 0
IsSize size = IsUnits size.width × IsUnits size.height

abbrev pub IsOffset : Point → Type 0
IsOffset point = IsSignedUnits point.left × IsSignedUnits point.top

abbrev pub IsPercent : ℤ → Type 0
IsPercent hundredths = (pos 0 ≤ℤ hundredths) × (hundredths ≤ℤ pos 1000000)

abbrev pub IsTime : ℕ → Type 0
IsTime time = time ≤ 1000000000000

abbrev pub TestAllowed : Test → Type 0
TestAllowed (test.Wider node px) = IsUnits px.0
TestAllowed (test.Taller node px) = IsUnits px.0
TestAllowed other = Unit {0}

abbrev pub ActionAllowed : Action → Type 0
ActionAllowed (action.Viewport size) = IsSize size
ActionAllowed (action.Ratio percent) = IsPercent percent.0
ActionAllowed (action.Image name document size) = IsSize size
ActionAllowed (action.Set node declaration) = style.IsAllowed declaration
ActionAllowed (action.Grow node axis by) = IsSignedUnits by.0
ActionAllowed (action.Load node size) = IsSize size
ActionAllowed (action.Scroll node to) = IsOffset to
ActionAllowed (action.ScrollBy node by) = IsOffset by
ActionAllowed (action.Timer document key delay handler) = IsTime delay
ActionAllowed other = Unit {0}

-- for the commands of a block this is part of their type
abbrev pub WhatAllowed : What → Type 0
WhatAllowed (what.Act action) = ActionAllowed action
WhatAllowed (what.Each body) = Unit {0}
WhatAllowed (what.When condition body) = TestAllowed condition.asks

abbrev pub IsAllowed : Command → Type 0
IsAllowed command = WhatAllowed command.what

abbrev pub ItemAllowed : Item → Type 0
ItemAllowed (item.Command command) = IsAllowed command
ItemAllowed (item.Tick line time) = IsTime time
ItemAllowed (item.Handler handler) = Unit {0}
