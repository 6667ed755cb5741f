-- Which trace lines are possible. That lengths are between -2 ^ 50 and 2 ^ 50 units is a bound of this project; the other ranges are those
-- of names and of the numbers' types.
use Rattle.std.specs.Prelude.{◌≡◌, ℕ, ◌^◌, ◌<◌, true, List, ◌-ℤ◌, IfSome}
use Rattle.word_model.specs.Names.{is_name}
use Rattle.px_units.specs.declared.Rect.{Rect}
use Rattle.px_units.specs.declared.Point.{Point}
use Rattle.px_units.specs.declared.Size.{Size}
use Rattle.px_units.specs.Rects.{InReach, RectInReach}
use Rattle.script_model.specs.TraceLines.{FiredEvent, FiredResize, FiredScroll, FiredChange, FiredError, Intersection, TraceLine, TickLine, TimerLine, FrameLine, TaskLine, EventLine, ResizeLine, RoundLine, IntersectLine, TakeLine, SayLine, ReadLine, ThrowLine, LimitLine, SyntaxLine}

-- the edges, the width and the height are within reach; the latter two are negative if opposite edges cross
pub record RectReaches (r : Rect) : Type 0 where
  pub edges : RectInReach r
  pub width : InReach (r.right -ℤ r.left)
  pub height : InReach (r.bottom -ℤ r.top)

pub record SizeReaches (size : Size) : Type 0 where
  pub width : InReach size.width
  pub height : InReach size.height

pub record PointReaches (point : Point) : Type 0 where
  pub left : InReach point.left
  pub top : InReach point.top

pub record EntryReaches (found : Intersection) : Type 0 where
  pub root : RectReaches found.root
  pub bounds : RectReaches found.bounds
  pub cut : RectReaches found.cut

-- each length of the line is within its bound
abbrev pub HasReach : TraceLine → Type 0
HasReach (TickLine time) = Unit {0}
HasReach (TimerLine document key) = Unit {0}
HasReach (FrameLine document key) = Unit {0}
HasReach (TaskLine document handler) = Unit {0}
HasReach (EventLine event) = Unit {0}
HasReach (ResizeLine observer target rect border device) = RectReaches rect × SizeReaches border × IfSome device SizeReaches
HasReach (RoundLine document depth) = Unit {0}
HasReach (IntersectLine found) = EntryReaches found
HasReach (TakeLine observer count) = Unit {0}
HasReach (SayLine word) = Unit {0}
HasReach (ReadLine target rect scroll) = RectReaches rect × PointReaches scroll
HasReach (ThrowLine number exception) = Unit {0}
HasReach (LimitLine limit number most) = Unit {0}
HasReach (SyntaxLine number column) = Unit {0}

abbrev pub IsName : List ℕ → Type 0
IsName word = is_name word ≡ true

abbrev pub EventFits : FiredEvent → Type 0
EventFits (FiredResize document) = IsName document
EventFits (FiredScroll target) = IsName target
EventFits (FiredChange query matches) = IsName query
EventFits (FiredError document) = IsName document

pub record EntryFits (found : Intersection) : Type 0 where
  pub observer : IsName found.observer
  pub target : IsName found.target
  pub time : found.time < 2 ^ 64
  pub part : found.part < 2 ^ 128
  pub whole : found.whole < 2 ^ 128

-- names have the form of names, and numbers are in the ranges of their types
abbrev pub Fits : TraceLine → Type 0
Fits (TickLine time) = time < 2 ^ 64
Fits (TimerLine document key) = IsName document × IsName key
Fits (FrameLine document key) = IsName document × IsName key
Fits (TaskLine document handler) = IsName document × IsName handler
Fits (EventLine event) = EventFits event
Fits (ResizeLine observer target rect border device) = IsName observer × IsName target
Fits (RoundLine document depth) = IsName document × (depth < 2 ^ 32)
Fits (IntersectLine found) = EntryFits found
Fits (TakeLine observer count) = IsName observer × (count < 2 ^ 64)
Fits (SayLine word) = IsName word
Fits (ReadLine target rect scroll) = IsName target
Fits (ThrowLine number exception) = number < 2 ^ 32
Fits (LimitLine limit number most) = (number < 2 ^ 32) × (most < 2 ^ 64)
Fits (SyntaxLine number column) = (number < 2 ^ 32) × (column < 2 ^ 32)

-- the lines that are written and read
pub record IsLine (line : TraceLine) : Type 0 where
  pub fits : Fits line
  pub reach : HasReach line
