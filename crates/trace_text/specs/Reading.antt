-- How the code reads a line. That this is the inverse of the text of a line is proved in proofs/, and the contract of `read_line` refers
-- only to that text.
use Rattle.std.specs.Prelude.{ℕ, ◌+◌, ◌-◌, ◌*◌, ◌/◌, ◌%◌, ◌^◌, Bool, true, false, cond, not, ◌&&◌, ◌==◌, nat_lt, List, [], ◌∷◌, length, drop, ℤ, pos, neg_ℤ, ◌+ℤ◌, int_le, negsuc, Option, Some, None, option_map, take, take_while, bytes_eq, codes}
use Rattle.word_model.specs.Names.{is_name}
use Rattle.word_model.specs.Numbers.{digits_value, is_whole, at_most, leading_digits, behind_digits}
use Rattle.px_units.specs.declared.Rect.{Rect}
use Rattle.px_units.specs.declared.Point.{Point}
use Rattle.px_units.specs.declared.Size.{Size}
use Rattle.text_io.specs.declared.kinds.EventKind.{EventKind}
use Rattle.text_io.specs.declared.kinds.EventKind.TheVariants as event
use Rattle.text_io.specs.declared.kinds.ThrowKind.{ThrowKind}
use Rattle.text_io.specs.declared.kinds.LimitKind.{LimitKind}
use Rattle.text_io.specs.Kinds.{named, event_of, throw_of, limit_of}
use Rattle.script_model.specs.TraceLines.{FiredEvent, FiredResize, FiredScroll, FiredChange, FiredError, Intersection, TraceLine, TickLine, TimerLine, FrameLine, TaskLine, EventLine, ResizeLine, RoundLine, IntersectLine, TakeLine, SayLine, ReadLine, ThrowLine, LimitLine, SyntaxLine}
use Rattle.script_model.specs.TraceText.{bool_text, meets_text, loop_error}
use Rattle.trace_text.specs.declared.kinds.LineKind.{LineKind}
use Rattle.trace_text.specs.declared.kinds.LineKind.TheVariants as kind
use Rattle.trace_text.specs.Fields.{is_field_byte}
use Rattle.trace_text.specs.Kinds.{kind_of}

infixl 10 ◌>>=◌
abbrev pub ◌>>=◌ : {A B : Type 0} → Option A → (A → Option B) → Option B
None >>= next = None
Some value >>= next = next value

-- a value and the text after it
abbrev pub Read : Type 0 → Type 0
Read A = Option (A × List ℕ)

-- ---- one field

unfoldable pub field_of : List ℕ → List ℕ
field_of text = take_while is_field_byte text

unfoldable pub behind_field : List ℕ → List ℕ
unfolding field_of
behind_field text = drop (length (field_of text)) text

-- the field after a space
unfoldable pub field_at : List ℕ → Read (List ℕ)
unfolding behind_field
field_at [] = None
field_at (b ∷ bs) = cond (b == 32) (Some (field_of bs, behind_field bs)) None

abbrev pub value_at : {A : Type 0} → (List ℕ → Option A) → List ℕ → Read A
value_at of text = field_at text >>= λ field. of field.0 >>= λ value. Some (value, field.1)

abbrev pub name_of : List ℕ → Option (List ℕ)
name_of field = cond (is_name field) (Some field) None

-- the name after an `@`
unfoldable pub window_of : List ℕ → Option (List ℕ)
window_of [] = None
window_of (b ∷ bs) = cond (b == 64) (name_of bs) None

-- a number that isn't greater than this one
unfoldable pub number_of : ℕ → List ℕ → Option ℕ
number_of most field = cond (is_whole field) (at_most most (digits_value field)) None

-- two numbers with a `/` between them
unfoldable pub over : ℕ → List ℕ → Option (ℕ × ℕ)
unfolding number_of
over part [] = None
over part (b ∷ bs) = cond (b == 47) (number_of (2 ^ 128 - 1) bs >>= λ whole. Some (part, whole)) None

unfoldable pub ratio_of : List ℕ → Option (ℕ × ℕ)
unfolding number_of over
ratio_of field = number_of (2 ^ 128 - 1) (leading_digits field) >>= λ part. over part (behind_digits field)

-- whether these are the decimals of `left` 64ths, by long division
unfoldable pub are_decimals : List ℕ → ℕ → Bool
are_decimals [] left = left == 0
are_decimals (d ∷ ds) left = not (left == 0) && d == 48 + left * 10 / 64 && are_decimals ds (left * 10 % 64)

-- the number of 64ths whose decimals begin with these; the first two decimals determine it
unfoldable pub sixty_fourths : List ℕ → ℕ
sixty_fourths [] = 0
sixty_fourths (a ∷ []) = ((a - 48) * 640 + 99) / 100
sixty_fourths (a ∷ b ∷ more) = ((a - 48) * 640 + (b - 48) * 64 + 99) / 100

unfoldable pub decimals_of : List ℕ → Option ℕ
unfolding sixty_fourths are_decimals
decimals_of digits =
    cond (nat_lt 0 (sixty_fourths digits) && nat_lt (sixty_fourths digits) 64 && are_decimals digits (sixty_fourths digits)) (Some (sixty_fourths digits)) None

-- the 64ths after the whole pixels
unfoldable pub rest_of : List ℕ → Option ℕ
unfolding decimals_of
rest_of [] = Some 0
rest_of (b ∷ bs) = cond (b == 46) (decimals_of bs) None

-- a length without a sign
unfoldable pub magnitude_of : List ℕ → Option ℕ
unfolding number_of rest_of
magnitude_of text =
    number_of (2 ^ 44) (leading_digits text) >>= λ whole. rest_of (behind_digits text) >>= λ rest. at_most (2 ^ 50) (whole * 64 + rest)

unfoldable pub negative : ℕ → Option ℤ
negative units = cond (units == 0) None (Some (neg_ℤ (pos units)))

unfoldable pub pixels_of : List ℕ → Option ℤ
unfolding magnitude_of negative
pixels_of [] = None
pixels_of (b ∷ bs) = cond (b == 45) (magnitude_of bs >>= negative) (option_map pos (magnitude_of (b ∷ bs)))

unfoldable pub bool_of : List ℕ → Option Bool
unfolding named
bool_of field = named bool_text (true ∷ false ∷ []) field

unfoldable pub meets_of : List ℕ → Option Bool
unfolding named
meets_of field = named meets_text (true ∷ false ∷ []) field

-- ---- several fields

abbrev pub both : {A B : Type 0} → (List ℕ → Read A) → (List ℕ → Read B) → List ℕ → Read (A × B)
both first second text = first text >>= λ a. second a.1 >>= λ b. Some ((a.0, b.0), b.1)

-- the value that is read, converted to another one if that is possible
abbrev pub as_read : {A B : Type 0} → (A → Option B) → (List ℕ → Read A) → List ℕ → Read B
as_read seen read text = read text >>= λ a. seen a.0 >>= λ value. Some (value, a.1)

unfoldable pub name_at : List ℕ → Read (List ℕ)
unfolding field_at
name_at = value_at name_of

unfoldable pub names_at : List ℕ → Read (List ℕ × List ℕ)
unfolding name_at
names_at = both name_at name_at

unfoldable pub window_at : List ℕ → Read (List ℕ)
unfolding field_at window_of
window_at = value_at window_of

unfoldable pub number_at : ℕ → List ℕ → Read ℕ
unfolding field_at number_of
number_at most = value_at (number_of most)

unfoldable pub ratio_at : List ℕ → Read (ℕ × ℕ)
unfolding field_at ratio_of
ratio_at = value_at ratio_of

unfoldable pub bool_at : List ℕ → Read Bool
unfolding field_at bool_of
bool_at = value_at bool_of

unfoldable pub meets_at : List ℕ → Read Bool
unfolding field_at meets_of
meets_at = value_at meets_of

unfoldable pub pixels_at : List ℕ → Read ℤ
unfolding field_at pixels_of
pixels_at = value_at pixels_of

-- a whole number with its sign
unfoldable pub whole_of : List ℕ → Option ℤ
unfolding number_of negative
whole_of [] = None
whole_of (b ∷ bs) = cond (b == 45) (number_of (2 ^ 50) bs >>= negative) (option_map pos (number_of (2 ^ 50) (b ∷ bs)))

unfoldable pub whole_at : List ℕ → Read ℤ
unfolding field_at whole_of
whole_at = value_at whole_of

-- the text after this word, if the word is the next field
unfoldable pub behind_word : List ℕ → List ℕ → Option (List ℕ)
unfolding field_at
behind_word word text = field_at text >>= λ field. cond (bytes_eq field.0 word) (Some field.1) None

abbrev pub behind : {A : Type 0} → List ℕ → (List ℕ → Read A) → List ℕ → Read A
behind word read text = behind_word word text >>= read

unfoldable pub point_at : List ℕ → Read Point
unfolding pixels_at
point_at = as_read (λ (p : ℤ × ℤ). Some (record { left = p.0; top = p.1 })) (both pixels_at pixels_at)

unfoldable pub size_at : List ℕ → Read Size
unfolding pixels_at
size_at = as_read (λ (p : ℤ × ℤ). Some (record { width = p.0; height = p.1 })) (both pixels_at pixels_at)

-- a size in device pixels, if a field follows
unfoldable pub device_at : List ℕ → Read (Option Size)
unfolding whole_at behind_word
device_at [] = Some (None, [])
device_at (b ∷ bs) =
    cond (b == 32)
    (as_read (λ (p : ℤ × ℤ). Some (Some (record { width = p.0; height = p.1 }))) (behind (codes "device") (both whole_at whole_at)) (b ∷ bs))
    (Some (None, b ∷ bs))

abbrev pub in_reach : ℤ → Bool
in_reach edge = int_le (negsuc 1125899906842623) edge && int_le edge (pos 1125899906842624)

-- the end of a length that begins at `start`, if it is within reach
unfoldable pub edge_of : ℤ → ℤ → Option ℤ
edge_of start length = cond (in_reach (start +ℤ length)) (Some (start +ℤ length)) None

-- the rectangle with this corner and size
unfoldable pub rect_of : Point × Size → Option Rect
unfolding edge_of
rect_of p =
    edge_of p.0.left p.1.width >>= λ right. edge_of p.0.top p.1.height >>= λ bottom.
    Some (record { left = p.0.left; top = p.0.top; right = right; bottom = bottom })

unfoldable pub rect_at : List ℕ → Read Rect
unfolding point_at size_at rect_of
rect_at = as_read rect_of (both point_at size_at)

-- ---- lines

-- reads the value that a line is made from
abbrev pub line_at : {A : Type 0} → (A → TraceLine) → (List ℕ → Read A) → List ℕ → Read TraceLine
line_at line read text = read text >>= λ a. Some (line a.0, a.1)

-- the rest of a text that begins with `front`
unfoldable pub behind_text : List ℕ → List ℕ → Option (List ℕ)
behind_text front text = cond (bytes_eq (take (length front) text) front) (Some (drop (length front) text)) None

-- the rest of a text that begins with a space and `front`
unfoldable pub behind_space : List ℕ → List ℕ → Option (List ℕ)
unfolding behind_text
behind_space front [] = None
behind_space front (b ∷ bs) = cond (b == 32) (behind_text front bs) None

-- the fields of an event after its name
unfoldable pub event_by : EventKind → List ℕ → Read FiredEvent
unfolding window_at name_at bool_at behind_space
event_by event.Resize text = as_read (λ document. Some (FiredResize document)) window_at text
event_by event.Scroll text = as_read (λ target. Some (FiredScroll target)) name_at text
event_by event.Change text = as_read (λ (query : List ℕ × Bool). Some (FiredChange query.0 query.1)) (both name_at bool_at) text
event_by event.Error text = window_at text >>= λ document. behind_space loop_error document.1 >>= λ rest. Some (FiredError document.0, rest)

unfoldable pub event_at : List ℕ → Read FiredEvent
unfolding field_at named event_by
event_at text = value_at event_of text >>= λ kind. event_by kind.0 kind.1

abbrev pub u32_at : List ℕ → Read ℕ
u32_at = number_at (2 ^ 32 - 1)

abbrev pub u64_at : List ℕ → Read ℕ
u64_at = number_at (2 ^ 64 - 1)

unfoldable pub throw_at : List ℕ → Read ThrowKind
unfolding field_at named
throw_at = value_at throw_of

unfoldable pub limit_at : List ℕ → Read LimitKind
unfolding field_at named
limit_at = value_at limit_of

-- the names, the time, whether target and root intersect, and the areas
abbrev pub Seen : Type 0
Seen = (List ℕ × List ℕ) × (ℕ × (Bool × (ℕ × ℕ)))

-- the rectangles of the root, of the target, and of their intersection
abbrev pub Rects : Type 0
Rects = Rect × (Rect × Rect)

abbrev pub seen_at : List ℕ → Read Seen
seen_at = both names_at (both u64_at (both meets_at ratio_at))

abbrev pub rects_at : List ℕ → Read Rects
rects_at = both (behind (codes "root") rect_at) (both (behind (codes "box") rect_at) (behind (codes "cut") rect_at))

abbrev pub entry : Seen × Rects → Intersection
entry p = record {
  observer = p.0.0.0;
  target = p.0.0.1;
  time = p.0.1.0;
  meets = p.0.1.1.0;
  part = p.0.1.1.1.0;
  whole = p.0.1.1.1.1;
  root = p.1.0;
  bounds = p.1.1.0;
  cut = p.1.1.1;
}

-- the line of this kind whose fields come next
unfoldable pub line_by : LineKind → List ℕ → Read TraceLine
unfolding names_at name_at number_at event_at rect_at size_at device_at point_at behind_word meets_at ratio_at throw_at limit_at
line_by kind.Tick text = line_at TickLine u64_at text
line_by kind.Timer text = line_at (λ (p : List ℕ × List ℕ). TimerLine p.0 p.1) names_at text
line_by kind.Frame text = line_at (λ (p : List ℕ × List ℕ). FrameLine p.0 p.1) names_at text
line_by kind.Task text = line_at (λ (p : List ℕ × List ℕ). TaskLine p.0 p.1) names_at text
line_by kind.Event text = line_at EventLine event_at text
line_by kind.Resize text =
    line_at (λ (p : (List ℕ × List ℕ) × (Rect × (Size × Option Size))). ResizeLine p.0.0 p.0.1 p.1.0 p.1.1.0 p.1.1.1)
    (both names_at (both (behind (codes "rect") rect_at) (both (behind (codes "border") size_at) device_at))) text
line_by kind.Round text = line_at (λ (p : List ℕ × ℕ). RoundLine p.0 p.1) (both name_at u32_at) text
line_by kind.Intersect text = line_at (λ p. IntersectLine (entry p)) (both seen_at rects_at) text
line_by kind.Take text = line_at (λ (p : List ℕ × ℕ). TakeLine p.0 p.1) (both name_at u64_at) text
line_by kind.Say text = line_at SayLine name_at text
line_by kind.Read text =
    line_at (λ (p : List ℕ × (Rect × Point)). ReadLine p.0 p.1.0 p.1.1) (both name_at (both rect_at point_at)) text
line_by kind.Throw text = line_at (λ (p : ℕ × ThrowKind). ThrowLine p.0 p.1) (both u32_at throw_at) text
line_by kind.Limit text =
    line_at (λ (p : LimitKind × (ℕ × ℕ)). LimitLine p.0 p.1.0 p.1.1) (both limit_at (both u32_at u64_at)) text
line_by kind.Syntax text = line_at (λ (p : ℕ × ℕ). SyntaxLine p.0 p.1) (both u32_at u32_at) text

-- the line, if its fields are followed by a line feed and nothing else
abbrev pub ended : TraceLine × List ℕ → Option TraceLine
ended line = cond (bytes_eq line.1 (10 ∷ [])) (Some line.0) None

unfoldable pub line_of : List ℕ → Option TraceLine
unfolding field_of behind_field named line_by
line_of text = kind_of (field_of text) >>= λ kind. line_by kind (behind_field text) >>= ended
