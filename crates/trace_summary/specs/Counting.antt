-- Counting one more line, and the room for it.
use Rattle.std.specs.Prelude.{◌+◌, ◌-◌, ◌^◌, ◌<◌}
use Rattle.script_model.specs.TraceLines.{TraceLine, TickLine, TimerLine, FrameLine, TaskLine, EventLine, ResizeLine, RoundLine, IntersectLine, TakeLine, SayLine, ReadLine, ThrowLine, LimitLine, SyntaxLine}
use Rattle.trace_summary.specs.declared.summary.Summary.{Summary}

abbrev pub with_line : TraceLine → Summary → Summary
with_line (TickLine time) s = record s { tick = s.tick + 1 }
with_line (TimerLine document key) s = record s { timer = s.timer + 1 }
with_line (FrameLine document key) s = record s { frame = s.frame + 1 }
with_line (TaskLine document handler) s = record s { task = s.task + 1 }
with_line (EventLine event) s = record s { event = s.event + 1 }
with_line (ResizeLine observer target rect border device) s = record s { resize = s.resize + 1 }
with_line (RoundLine document depth) s = record s { round = s.round + 1 }
with_line (IntersectLine found) s = record s { intersect = s.intersect + 1 }
with_line (TakeLine observer count) s = record s { take = s.take + 1 }
with_line (SayLine word) s = record s { say = s.say + 1 }
with_line (ReadLine target rect scroll) s = record s { read = s.read + 1 }
with_line (ThrowLine line exception) s = record s { throw = s.throw + 1 }
with_line (LimitLine limit line number) s = record s { limit = s.limit + 1 }
with_line (SyntaxLine line column) s = record s { syntax = s.syntax + 1 }

-- each count is below the greatest number of its type
pub record HasRoom (s : Summary) : Type 0 where
  pub tick : s.tick < 2 ^ 64 - 1
  pub timer : s.timer < 2 ^ 64 - 1
  pub frame : s.frame < 2 ^ 64 - 1
  pub task : s.task < 2 ^ 64 - 1
  pub event : s.event < 2 ^ 64 - 1
  pub resize : s.resize < 2 ^ 64 - 1
  pub round : s.round < 2 ^ 64 - 1
  pub intersect : s.intersect < 2 ^ 64 - 1
  pub take : s.take < 2 ^ 64 - 1
  pub say : s.say < 2 ^ 64 - 1
  pub read : s.read < 2 ^ 64 - 1
  pub throw : s.throw < 2 ^ 64 - 1
  pub limit : s.limit < 2 ^ 64 - 1
  pub syntax : s.syntax < 2 ^ 64 - 1
