-- Where a box lies, in units of 1/64 pixel. The bounds are this project's own.
use Rattle.std.specs.Prelude.{IfSome}
use Rattle.trace_text.specs.Ranges.{RectReaches}
use Rattle.box_inspector.specs.declared.lines.BoxLine.{BoxLine}

-- its edges, widths and heights lie between -2 ^ 50 and 2 ^ 50
pub record BoxReaches (line : BoxLine) : Type 0 where
  pub place : RectReaches line.place
  pub seen : IfSome line.seen RectReaches
