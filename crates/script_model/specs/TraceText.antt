-- The text of each trace line. Fields are separated by one space, and each line ends with a line feed. The form is this
-- project's own choice; the message of an `error` event is the standard's (Resize Observer, 3.4.6).
use Rattle.std.specs.Prelude.{ℕ, ℤ, ◌-ℤ◌, unsigned_abs, Bool, true, false, List, [], ◌∷◌, ◌++◌, Option, Some, None, codes}
use Rattle.std.specs.List.{join_with_byte}
use Rattle.word_model.specs.Numbers.{decimal}
use Rattle.px_units.specs.Texts.{sign_text, pixel_text}
use Rattle.px_units.specs.declared.Rect.{Rect}
use Rattle.px_units.specs.declared.Point.{Point}
use Rattle.px_units.specs.declared.Size.{Size}
use Rattle.text_io.specs.Kinds.{limit_word, throw_word}
use Rattle.script_model.specs.TraceLines.{FiredEvent, FiredResize, FiredScroll, FiredChange, FiredError, Intersection, TraceLine, TickLine, TimerLine, FrameLine, TaskLine, EventLine, ResizeLine, RoundLine, IntersectLine, TakeLine, SayLine, ReadLine, ThrowLine, LimitLine, SyntaxLine}

-- how the window of a document is written: `@` and the document's name
abbrev pub window_text : List ℕ → List ℕ
window_text document = 64 ∷ document

abbrev pub bool_text : Bool → List ℕ
bool_text true = codes "true"
bool_text false = codes "false"

abbrev pub meets_text : Bool → List ℕ
meets_text true = codes "yes"
meets_text false = codes "no"

-- left, top, width and height; a width or height is negative if opposite edges cross
unfoldable pub rect_fields : Rect → List (List ℕ)
unfolding pixel_text
rect_fields r =
    pixel_text r.left ∷ pixel_text r.top ∷ pixel_text (r.right -ℤ r.left) ∷ pixel_text (r.bottom -ℤ r.top) ∷ []

unfoldable pub size_fields : Size → List (List ℕ)
unfolding pixel_text
size_fields size = pixel_text size.width ∷ pixel_text size.height ∷ []

-- a whole number, with a minus sign if it is negative
unfoldable pub whole_text : ℤ → List ℕ
unfolding sign_text decimal
whole_text number = sign_text number ++ decimal (unsigned_abs number)

-- a size in device pixels, if it is reported
unfoldable pub device_fields : Option Size → List (List ℕ)
unfolding whole_text
device_fields None = []
device_fields (Some size) = codes "device" ∷ whole_text size.width ∷ whole_text size.height ∷ []

unfoldable pub point_fields : Point → List (List ℕ)
unfolding pixel_text
point_fields point = pixel_text point.left ∷ pixel_text point.top ∷ []

-- the intersecting area of a target and its whole area, as a fraction that isn't reduced
unfoldable pub ratio_text : ℕ → ℕ → List ℕ
unfolding decimal
ratio_text part whole = decimal part ++ (47 ∷ decimal whole)

abbrev pub loop_error : List ℕ
loop_error = codes "ResizeObserver loop completed with undelivered notifications."

unfoldable pub event_fields : FiredEvent → List (List ℕ)
event_fields (FiredResize document) = codes "resize" ∷ window_text document ∷ []
event_fields (FiredScroll target) = codes "scroll" ∷ target ∷ []
event_fields (FiredChange query matches) = codes "change" ∷ query ∷ bool_text matches ∷ []
event_fields (FiredError document) = codes "error" ∷ window_text document ∷ loop_error ∷ []

unfoldable pub intersection_fields : Intersection → List (List ℕ)
unfolding decimal ratio_text rect_fields
intersection_fields found =
    (found.observer ∷ found.target ∷ decimal found.time ∷ meets_text found.meets ∷ [])
    ++ (ratio_text found.part found.whole ∷ [])
    ++ (codes "root" ∷ rect_fields found.root)
    ++ (codes "box" ∷ rect_fields found.bounds)
    ++ (codes "cut" ∷ rect_fields found.cut)

-- the kind of a line, its first field
abbrev pub kind_text : TraceLine → List ℕ
kind_text (TickLine time) = codes "tick"
kind_text (TimerLine document key) = codes "timer"
kind_text (FrameLine document key) = codes "frame"
kind_text (TaskLine document handler) = codes "task"
kind_text (EventLine event) = codes "event"
kind_text (ResizeLine observer target rect border device) = codes "resize"
kind_text (RoundLine document depth) = codes "round"
kind_text (IntersectLine found) = codes "intersect"
kind_text (TakeLine observer count) = codes "take"
kind_text (SayLine word) = codes "say"
kind_text (ReadLine target rect scroll) = codes "read"
kind_text (ThrowLine line exception) = codes "throw"
kind_text (LimitLine limit line number) = codes "limit"
kind_text (SyntaxLine line column) = codes "syntax"

-- the fields after it
unfoldable pub fields_of : TraceLine → List (List ℕ)
unfolding decimal event_fields rect_fields size_fields device_fields point_fields intersection_fields
fields_of (TickLine time) = decimal time ∷ []
fields_of (TimerLine document key) = document ∷ key ∷ []
fields_of (FrameLine document key) = document ∷ key ∷ []
fields_of (TaskLine document handler) = document ∷ handler ∷ []
fields_of (EventLine event) = event_fields event
fields_of (ResizeLine observer target rect border device) =
    (observer ∷ target ∷ codes "rect" ∷ rect_fields rect) ++ (codes "border" ∷ size_fields border) ++ device_fields device
fields_of (RoundLine document depth) = document ∷ decimal depth ∷ []
fields_of (IntersectLine found) = intersection_fields found
fields_of (TakeLine observer count) = observer ∷ decimal count ∷ []
fields_of (SayLine word) = word ∷ []
fields_of (ReadLine target rect scroll) = (target ∷ rect_fields rect) ++ point_fields scroll
fields_of (ThrowLine line exception) = decimal line ∷ throw_word exception ∷ []
fields_of (LimitLine limit line number) = limit_word limit ∷ decimal line ∷ decimal number ∷ []
fields_of (SyntaxLine line column) = decimal line ∷ decimal column ∷ []

-- the line with its line feed
unfoldable pub line_text : TraceLine → List ℕ
unfolding fields_of
line_text line = join_with_byte 32 (kind_text line ∷ fields_of line) ++ (10 ∷ [])
