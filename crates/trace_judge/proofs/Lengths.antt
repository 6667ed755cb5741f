-- How long a line of a trace is at the most.
use Rattle.std.proofs.Common.{◌≡◌, refl, ap, ℕ, ℤ, zero, suc, ◌+◌, ◌*◌, ◌/◌, ◌%◌, ◌<◌, ◌≤◌, Bool, true, false, cond, ◌&&◌, List, [], ◌∷◌, ◌++◌, length, Option, Some, None, arith, length-append}
use Rattle.std.specs.Prelude.{◌==◌, ◌-ℤ◌, nat_lt, nat_le, pos, int_lt, unsigned_abs, codes}
use Rattle.std.specs.List.{join_with_byte, list_all}
use Rattle.std.proofs.lemmas.Bool.{and_parts, leb-true}
use Rattle.word_model.specs.Names.{is_letter, is_name_byte}
use Rattle.word_model.specs.Numbers.{decimal_on, decimal}
use Rattle.px_units.specs.Texts.{digits_in, with_digit, without_final_zeros, rest_text, sign_text, pixel_text}
use Rattle.px_units.specs.declared.Rect.{Rect}
use Rattle.px_units.specs.declared.Point.{Point}
use Rattle.px_units.specs.declared.Size.{Size}
use Rattle.text_io.specs.Kinds.{limit_word, throw_word}
use Rattle.text_io.specs.declared.kinds.LimitKind.{LimitKind}
use Rattle.text_io.specs.declared.kinds.LimitKind.TheVariants as limit
use Rattle.text_io.specs.declared.kinds.ThrowKind.{ThrowKind}
use Rattle.text_io.specs.declared.kinds.ThrowKind.TheVariants as throw
use Rattle.script_model.specs.TraceLines.{FiredEvent, FiredResize, FiredScroll, FiredChange, FiredError, Intersection, TraceLine, TickLine, TimerLine, FrameLine, TaskLine, EventLine, ResizeLine, RoundLine, IntersectLine, TakeLine, SayLine, ReadLine, ThrowLine, LimitLine, SyntaxLine}
use Rattle.script_model.specs.TraceText.{bool_text, meets_text, window_text, rect_fields, size_fields, whole_text, device_fields, point_fields, ratio_text, event_fields, intersection_fields, kind_text, fields_of, line_text}
use Rattle.trace_text.specs.Ranges.{IsName, EventFits, Fits, IsLine}

abbrev IsShort : List ℕ → Type 0
IsShort field = length field ≤ 99

abbrev AreShort : List (List ℕ) → Type 0
AreShort [] = Unit {0}
AreShort (field ∷ fields) = IsShort field × AreShort fields

both_short : (xs ys : List (List ℕ)) → AreShort xs → AreShort ys → AreShort (xs ++ ys)
both_short [] ys first second = second
both_short (x ∷ xs) ys first second = (first.0, both_short xs ys first.1 second)

joined_short : (fields : List (List ℕ)) → AreShort fields → length (join_with_byte 32 fields) ≤ 100 * length fields
joined_short [] all = omega arith
joined_short (f ∷ []) all = let first = all.0 in omega arith
joined_short (f ∷ g ∷ fs) all =
    let first = all.0 in
    let others = joined_short (g ∷ fs) all.1 in
    let both = length-append f (32 ∷ join_with_byte 32 (g ∷ fs)) in
    omega arith

-- ---- fields

on-at : (one : Bool) (places digit : ℕ) (behind more : List ℕ) → length more ≤ places + suc (length behind) → length (cond one (digit ∷ behind) more) ≤ suc places + length behind
on-at true places digit behind more later = omega arith
on-at false places digit behind more later = omega arith

on_short : (places number : ℕ) (behind : List ℕ) → length (decimal_on places number behind) ≤ places + length behind
unfolding decimal_on
on_short zero number behind = omega arith
on_short (suc places) number behind =
    on-at (nat_lt number 10) places (48 + number) behind (decimal_on places (number / 10) ((48 + number % 10) ∷ behind)) (on_short places (number / 10) ((48 + number % 10) ∷ behind))

decimal_short : (number : ℕ) → length (decimal number) ≤ 39
unfolding decimal
decimal_short number = on_short 39 number []

field_short : (number : ℕ) → IsShort (decimal number)
field_short number = let h = decimal_short number in omega arith

with-short : (drops : Bool) (digit : ℕ) → length (cond drops [] (digit ∷ [])) ≤ 1
with-short true digit = omega arith
with-short false digit = omega arith

digit_short : (digit : ℕ) (digits : List ℕ) → length (with_digit digit digits) ≤ suc (length digits)
unfolding with_digit
digit_short digit [] = with-short (digit == 48) digit
digit_short digit (d ∷ ds) = omega arith

zeros_short : (digits : List ℕ) → length (without_final_zeros digits) ≤ length digits
unfolding without_final_zeros
zeros_short [] = omega arith
zeros_short (d ∷ ds) = let one = digit_short d (without_final_zeros ds) in let others = zeros_short ds in omega arith

digits_long : (places number : ℕ) → length (digits_in places number) ≡ places
unfolding digits_in
digits_long zero number = refl
digits_long (suc places) number = ap suc (digits_long places number)

rest-at : (none : Bool) (digits : List ℕ) → length digits ≤ 6 → length (cond none [] (46 ∷ digits)) ≤ 7
rest-at true digits few = omega arith
rest-at false digits few = omega arith

rest_short : (rest : ℕ) → length (rest_text rest) ≤ 7
unfolding rest_text
rest_short rest =
    rest-at (rest == 0) (without_final_zeros (digits_in 6 (rest * 15625)))
    (let cut = zeros_short (digits_in 6 (rest * 15625)) in let long = digits_long 6 (rest * 15625) in omega arith)

sign-at : (negative : Bool) → length {A = ℕ} (cond negative (45 ∷ []) []) ≤ 1
sign-at true = omega arith
sign-at false = omega arith

sign_short : (units : ℤ) → length (sign_text units) ≤ 1
unfolding sign_text
sign_short units = sign-at (int_lt units (pos 0))

pixels_short : (units : ℤ) → IsShort (pixel_text units)
unfolding pixel_text
pixels_short units =
    let sign = sign_short units in
    let whole = decimal_short (unsigned_abs units / 64) in
    let rest = rest_short (unsigned_abs units % 64) in
    let first = length-append (sign_text units) (decimal (unsigned_abs units / 64)) in
    let all = length-append (sign_text units ++ decimal (unsigned_abs units / 64)) (rest_text (unsigned_abs units % 64)) in
    omega arith

whole_short : (number : ℤ) → IsShort (whole_text number)
unfolding whole_text
whole_short number =
    let sign = sign_short number in
    let digits = decimal_short (unsigned_abs number) in
    let all = length-append (sign_text number) (decimal (unsigned_abs number)) in
    omega arith

ratio_short : (part whole : ℕ) → IsShort (ratio_text part whole)
unfolding ratio_text
ratio_short part whole =
    let first = decimal_short part in
    let second = decimal_short whole in
    let both = length-append (decimal part) (47 ∷ decimal whole) in
    omega arith

name_length : (name : List ℕ) → IsName name → length name ≤ 32
name_length [] is = omega arith
name_length (b ∷ bs) is = let few = leb-true (length bs) 31 (and_parts (is_letter b && list_all is_name_byte bs) (nat_le (length bs) 31) is).1 in omega arith

name_short : (name : List ℕ) → IsName name → IsShort name
name_short name is = let few = name_length name is in omega arith

window_short : (name : List ℕ) → IsName name → IsShort (window_text name)
window_short name is = let few = name_length name is in omega arith

-- a word that is written out
word_short : (word : List ℕ) → nat_le (length word) 99 ≡ true → IsShort word
word_short word few = leb-true (length word) 99 few

bool_short : (value : Bool) → IsShort (bool_text value)
bool_short true = word_short (codes "true") refl
bool_short false = word_short (codes "false") refl

meets_short : (value : Bool) → IsShort (meets_text value)
meets_short true = word_short (codes "yes") refl
meets_short false = word_short (codes "no") refl

limit_short : (kind : LimitKind) → IsShort (limit_word kind)
limit_short limit.Script = word_short (limit_word limit.Script) refl
limit_short limit.Line = word_short (limit_word limit.Line) refl
limit_short limit.Handlers = word_short (limit_word limit.Handlers) refl
limit_short limit.Nesting = word_short (limit_word limit.Nesting) refl
limit_short limit.Commands = word_short (limit_word limit.Commands) refl
limit_short limit.Nodes = word_short (limit_word limit.Nodes) refl
limit_short limit.Depth = word_short (limit_word limit.Depth) refl
limit_short limit.Documents = word_short (limit_word limit.Documents) refl
limit_short limit.ResizeObservers = word_short (limit_word limit.ResizeObservers) refl
limit_short limit.IntersectionObservers = word_short (limit_word limit.IntersectionObservers) refl
limit_short limit.ResizeObservations = word_short (limit_word limit.ResizeObservations) refl
limit_short limit.IntersectionObservations = word_short (limit_word limit.IntersectionObservations) refl
limit_short limit.Listeners = word_short (limit_word limit.Listeners) refl
limit_short limit.Timers = word_short (limit_word limit.Timers) refl
limit_short limit.FrameCallbacks = word_short (limit_word limit.FrameCallbacks) refl
limit_short limit.Tasks = word_short (limit_word limit.Tasks) refl
limit_short limit.Queries = word_short (limit_word limit.Queries) refl
limit_short limit.Recorded = word_short (limit_word limit.Recorded) refl
limit_short limit.Pages = word_short (limit_word limit.Pages) refl

throw_short : (kind : ThrowKind) → IsShort (throw_word kind)
throw_short throw.ReferenceError = word_short (throw_word throw.ReferenceError) refl
throw_short throw.TypeError = word_short (throw_word throw.TypeError) refl
throw_short throw.HierarchyRequestError = word_short (throw_word throw.HierarchyRequestError) refl
throw_short throw.NotFoundError = word_short (throw_word throw.NotFoundError) refl
throw_short throw.SyntaxError = word_short (throw_word throw.SyntaxError) refl
throw_short throw.RangeError = word_short (throw_word throw.RangeError) refl

-- ---- lines

-- at most twenty fields, each short
record AreFew (fields : List (List ℕ)) : Type 0 where
  short : AreShort fields
  few : length fields ≤ 20

rect_short : (rect : Rect) → AreShort (rect_fields rect)
unfolding rect_fields
rect_short rect = (pixels_short rect.left, (pixels_short rect.top, (pixels_short (rect.right -ℤ rect.left), (pixels_short (rect.bottom -ℤ rect.top), tt))))

size_short : (size : Size) → AreShort (size_fields size)
unfolding size_fields
size_short size = (pixels_short size.width, (pixels_short size.height, tt))

point_short : (point : Point) → AreShort (point_fields point)
unfolding point_fields
point_short point = (pixels_short point.left, (pixels_short point.top, tt))

event_few : (event : FiredEvent) → EventFits event → AreFew (event_fields event)
unfolding event_fields
event_few (FiredResize document) fits = record { short = (word_short (codes "resize") refl, (window_short document fits, tt)); few = leb-true 2 20 refl }
event_few (FiredScroll target) fits = record { short = (word_short (codes "scroll") refl, (name_short target fits, tt)); few = leb-true 2 20 refl }
event_few (FiredChange query matches) fits = record {
  short = (word_short (codes "change") refl, (name_short query fits, (bool_short matches, tt)));
  few = leb-true 3 20 refl;
}
event_few (FiredError document) fits = record {
  short = (
    word_short (codes "error") refl,
    (window_short document fits, (word_short (codes "ResizeObserver loop completed with undelivered notifications.") refl, tt)),
  );
  few = leb-true 3 20 refl;
}

entry_short : (found : Intersection) → IsName found.observer → IsName found.target → AreShort (intersection_fields found)
unfolding intersection_fields
entry_short found observer target =
    let first : List (List ℕ) = found.observer ∷ found.target ∷ decimal found.time ∷ meets_text found.meets ∷ [] in
    let ratio : List (List ℕ) = ratio_text found.part found.whole ∷ [] in
    let root : List (List ℕ) = codes "root" ∷ rect_fields found.root in
    let bounds : List (List ℕ) = codes "box" ∷ rect_fields found.bounds in
    let cut : List (List ℕ) = codes "cut" ∷ rect_fields found.cut in
    both_short (first ++ ratio ++ root ++ bounds) cut
    (both_short (first ++ ratio ++ root) bounds
    (both_short (first ++ ratio) root
    (both_short first ratio (name_short found.observer observer, (name_short found.target target, (field_short found.time, (meets_short found.meets, tt))))
    (ratio_short found.part found.whole, tt))
    (word_short (codes "root") refl, rect_short found.root))
    (word_short (codes "box") refl, rect_short found.bounds))
    (word_short (codes "cut") refl, rect_short found.cut)

entry_few : (found : Intersection) → length (intersection_fields found) ≤ 20
unfolding intersection_fields rect_fields
entry_few found = leb-true 20 20 refl

device_short : (device : Option Size) → AreShort (device_fields device)
unfolding device_fields
device_short None = tt
device_short (Some size) = (word_short (codes "device") refl, (whole_short size.width, (whole_short size.height, tt)))

resize_short : (observer target : List ℕ) (rect : Rect) (border : Size) (device : Option Size) → IsName observer → IsName target
    → AreShort ((observer ∷ target ∷ codes "rect" ∷ rect_fields rect) ++ (codes "border" ∷ size_fields border) ++ device_fields device)
resize_short observer target rect border device first second =
    both_short ((observer ∷ target ∷ codes "rect" ∷ rect_fields rect) ++ (codes "border" ∷ size_fields border)) (device_fields device)
    (both_short (observer ∷ target ∷ codes "rect" ∷ rect_fields rect) (codes "border" ∷ size_fields border)
    (name_short observer first, (name_short target second, (word_short (codes "rect") refl, rect_short rect)))
    (word_short (codes "border") refl, size_short border))
    (device_short device)

fields_short : (line : TraceLine) → Fits line → AreFew (fields_of line)
unfolding fields_of rect_fields size_fields device_fields point_fields
fields_short (TickLine time) fits = record { short = (field_short time, tt); few = leb-true 1 20 refl }
fields_short (TimerLine document key) fits = record { short = (name_short document fits.0, (name_short key fits.1, tt)); few = leb-true 2 20 refl }
fields_short (FrameLine document key) fits = record { short = (name_short document fits.0, (name_short key fits.1, tt)); few = leb-true 2 20 refl }
fields_short (TaskLine document handler) fits = record { short = (name_short document fits.0, (name_short handler fits.1, tt)); few = leb-true 2 20 refl }
fields_short (EventLine event) fits = event_few event fits
fields_short (ResizeLine observer target rect border None) fits = record { short = resize_short observer target rect border None fits.0 fits.1; few = leb-true 10 20 refl }
fields_short (ResizeLine observer target rect border (Some device)) fits = record { short = resize_short observer target rect border (Some device) fits.0 fits.1; few = leb-true 13 20 refl }
fields_short (RoundLine document depth) fits = record { short = (name_short document fits.0, (field_short depth, tt)); few = leb-true 2 20 refl }
fields_short (IntersectLine found) fits = record { short = entry_short found fits.observer fits.target; few = entry_few found }
fields_short (TakeLine observer count) fits = record { short = (name_short observer fits.0, (field_short count, tt)); few = leb-true 2 20 refl }
fields_short (SayLine word) fits = record { short = (name_short word fits, tt); few = leb-true 1 20 refl }
fields_short (ReadLine target rect scroll) fits = record {
  short = both_short (target ∷ rect_fields rect) (point_fields scroll) (name_short target fits, rect_short rect) (point_short scroll);
  few = leb-true 7 20 refl;
}
fields_short (ThrowLine number exception) fits = record { short = (field_short number, (throw_short exception, tt)); few = leb-true 2 20 refl }
fields_short (LimitLine limit number most) fits = record { short = (limit_short limit, (field_short number, (field_short most, tt))); few = leb-true 3 20 refl }
fields_short (SyntaxLine number column) fits = record { short = (field_short number, (field_short column, tt)); few = leb-true 2 20 refl }

kind_short : (line : TraceLine) → IsShort (kind_text line)
kind_short (TickLine time) = word_short (codes "tick") refl
kind_short (TimerLine document key) = word_short (codes "timer") refl
kind_short (FrameLine document key) = word_short (codes "frame") refl
kind_short (TaskLine document handler) = word_short (codes "task") refl
kind_short (EventLine event) = word_short (codes "event") refl
kind_short (ResizeLine observer target rect border device) = word_short (codes "resize") refl
kind_short (RoundLine document depth) = word_short (codes "round") refl
kind_short (IntersectLine found) = word_short (codes "intersect") refl
kind_short (TakeLine observer count) = word_short (codes "take") refl
kind_short (SayLine word) = word_short (codes "say") refl
kind_short (ReadLine target rect scroll) = word_short (codes "read") refl
kind_short (ThrowLine line exception) = word_short (codes "throw") refl
kind_short (LimitLine limit line number) = word_short (codes "limit") refl
kind_short (SyntaxLine line column) = word_short (codes "syntax") refl

pub line_short : (line : TraceLine) → IsLine line → length (line_text line) < 4096
unfolding line_text
line_short line is =
    let fields = fields_short line is.fits in
    let few = fields.few in
    let joined = joined_short (kind_text line ∷ fields_of line) (kind_short line, fields.short) in
    let all = length-append (join_with_byte 32 (kind_text line ∷ fields_of line)) (10 ∷ []) in
    omega arith
