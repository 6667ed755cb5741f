-- The lines of a trace as values. Lengths are in units of 1/64 pixel; a rectangle is given by its edges. A size in device pixels is
-- reported only in traces of version 2.
use Rattle.std.specs.Prelude.{ℕ, Bool, List, Option}
use Rattle.px_units.specs.declared.Rect.{Rect}
use Rattle.px_units.specs.declared.Point.{Point}
use Rattle.px_units.specs.declared.Size.{Size}
use Rattle.text_io.specs.declared.kinds.ThrowKind.{ThrowKind}
use Rattle.text_io.specs.declared.kinds.LimitKind.{LimitKind}

pub data FiredEvent : Type 0 where
  FiredResize : (document : List ℕ) → FiredEvent
  FiredScroll : (target : List ℕ) → FiredEvent
  FiredChange : (query : List ℕ) (matches : Bool) → FiredEvent
  FiredError : (document : List ℕ) → FiredEvent

-- `part` and `whole` are the intersecting area of the target and its whole area, in square units
pub record Intersection : Type 0 where
  pub observer : List ℕ
  pub target : List ℕ
  pub time : ℕ
  pub meets : Bool
  pub part : ℕ
  pub whole : ℕ
  pub root : Rect
  pub bounds : Rect
  pub cut : Rect

pub data TraceLine : Type 0 where
  TickLine : (time : ℕ) → TraceLine
  TimerLine : (document key : List ℕ) → TraceLine
  FrameLine : (document key : List ℕ) → TraceLine
  TaskLine : (document handler : List ℕ) → TraceLine
  EventLine : (event : FiredEvent) → TraceLine
  ResizeLine : (observer target : List ℕ) (rect : Rect) (border : Size) (device : Option Size) → TraceLine
  RoundLine : (document : List ℕ) (depth : ℕ) → TraceLine
  IntersectLine : (found : Intersection) → TraceLine
  TakeLine : (observer : List ℕ) (count : ℕ) → TraceLine
  SayLine : (word : List ℕ) → TraceLine
  ReadLine : (target : List ℕ) (rect : Rect) (scroll : Point) → TraceLine
  ThrowLine : (line : ℕ) (exception : ThrowKind) → TraceLine
  LimitLine : (limit : LimitKind) (line number : ℕ) → TraceLine
  SyntaxLine : (line column : ℕ) → TraceLine
