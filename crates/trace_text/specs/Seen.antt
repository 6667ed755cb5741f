-- What the types of the code stand for.
use Rattle.script_model.specs.TraceLines.{FiredEvent, FiredResize, FiredScroll, FiredChange, FiredError, TraceLine as LineModel, TickLine, TimerLine, FrameLine, TaskLine, EventLine as FiredLine, ResizeLine, RoundLine, IntersectLine, TakeLine, SayLine, ReadLine, ThrowLine, LimitLine, SyntaxLine}
use Rattle.trace_text.specs.declared.EventLine.{EventLine}
use Rattle.trace_text.specs.declared.EventLine.TheVariants as event
use Rattle.trace_text.specs.declared.TraceLine.{TraceLine}
use Rattle.trace_text.specs.declared.TraceLine.TheVariants as line

abbrev pub seen_event : EventLine → FiredEvent
seen_event (event.Resize document) = FiredResize document
seen_event (event.Scroll target) = FiredScroll target
seen_event (event.Change query matches) = FiredChange query matches
seen_event (event.Error document) = FiredError document

abbrev pub seen_line : TraceLine → LineModel
seen_line (line.Tick time) = TickLine time
seen_line (line.Timer document key) = TimerLine document key
seen_line (line.Frame document key) = FrameLine document key
seen_line (line.Task document handler) = TaskLine document handler
seen_line (line.Event fired) = FiredLine (seen_event fired)
seen_line (line.Resize observer target rect border device) = ResizeLine observer target rect border device
seen_line (line.Round document depth) = RoundLine document depth
seen_line (line.Intersect observer target time meets part whole root bounds cut) = IntersectLine (record {
  observer = observer;
  target = target;
  time = time;
  meets = meets;
  part = part;
  whole = whole;
  root = root;
  bounds = bounds;
  cut = cut;
})
seen_line (line.Take observer count) = TakeLine observer count
seen_line (line.Say word) = SayLine word
seen_line (line.Read target rect scroll) = ReadLine target rect scroll
seen_line (line.Throw number kind) = ThrowLine number kind
seen_line (line.Limit kind number most) = LimitLine kind number most
seen_line (line.Syntax number column) = SyntaxLine number column
