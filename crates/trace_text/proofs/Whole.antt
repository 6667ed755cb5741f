-- Whole lines, each read as what it writes.
use Rattle.std.proofs.Common.{◌≡◌, ◌≢◌, ◌∙◌, refl, sym, ap, subst, ℕ, ◌^◌, ◌<◌, Bool, true, not, ◌&&◌, List, [], ◌∷◌, ◌++◌, Option, Some, append_assoc, arith}
use Rattle.std.specs.Prelude.{bytes_eq, codes, ◌==◌, IfSome}
use Rattle.std.specs.List.{list_all, All}
use Rattle.std.proofs.lemmas.Bool.{and_parts, eqb-true, eq-eqb}
use Rattle.std.proofs.lemmas.List.Elements.{All-cons}
use Rattle.std.proofs.lemmas.List.Folds.{list_all-append}
use Rattle.std.proofs.lemmas.Slice.Eq.{bytes_eq-Decides}
use Rattle.word_model.specs.Numbers.{decimal}
use Rattle.px_units.specs.declared.Rect.{Rect}
use Rattle.px_units.specs.declared.Point.{Point}
use Rattle.px_units.specs.declared.Size.{Size}
use Rattle.text_io.specs.Kinds.{limit_word, throw_word, event_word}
use Rattle.text_io.specs.declared.kinds.EventKind.{EventKind}
use Rattle.text_io.specs.declared.kinds.EventKind.TheVariants as event
use Rattle.text_io.specs.declared.kinds.ThrowKind.{ThrowKind}
use Rattle.text_io.specs.declared.kinds.LimitKind.{LimitKind}
use Rattle.script_model.specs.TraceLines.{FiredEvent, FiredResize, FiredScroll, FiredChange, FiredError, Intersection, TraceLine, TickLine, TimerLine, FrameLine, TaskLine, EventLine, ResizeLine, RoundLine, IntersectLine, TakeLine, SayLine, ReadLine, ThrowLine, LimitLine, SyntaxLine}
use Rattle.script_model.specs.TraceText.{window_text, bool_text, meets_text, rect_fields, size_fields, device_fields, point_fields, ratio_text, loop_error, event_fields, intersection_fields, kind_text, fields_of, line_text}
use Rattle.trace_text.specs.declared.kinds.LineKind.{LineKind}
use Rattle.trace_text.specs.declared.kinds.LineKind.TheVariants as kind
use Rattle.trace_text.specs.Fields.{is_field_byte, before}
use Rattle.text_io.specs.Kinds.{named, event_of}
use Rattle.trace_text.specs.Kinds.{kind_word, line_kinds, kind_of}
use Rattle.trace_text.specs.Ranges.{IsName, RectReaches, SizeReaches, PointReaches, EntryReaches, EventFits, EntryFits, IsLine}
use Rattle.trace_text.specs.Reading.{◌>>=◌, Read, field_of, behind_field, value_at, both, behind, behind_space, behind_text, name_at, names_at, window_at, u32_at, u64_at, bool_at, meets_at, ratio_at, rect_at, size_at, device_at, point_at, throw_at, limit_at, event_by, event_at, Seen, Rects, seen_at, rects_at, entry, line_by, ended, line_of}
use Rattle.trace_text.proofs.Joined.{line_text_before}
use Rattle.trace_text.proofs.Exact.{ExactAt, ExactLast, as_last, both_last, line_end, is_no_feed, some_same, parts, chosen, field_first, field_of_first, behind_field_first, both_exact, behind_exact, made, built, built_last, built_again, built_whole, first_clean, field_clean}
use Rattle.trace_text.proofs.Numerals.{RatioFits, ratio_text_of}
use Rattle.trace_text.proofs.Parts.{name_field, names_one, names_two, windows, u32s, u64s, ratios, bools, meetings, events, throws, limits, points, sizes, devices, rects, Always, named_sound, text_sound, text_complete}

-- ---- events

abbrev Change : Type 0
Change = List ℕ × Bool

changes : ExactAt (both name_at bool_at) (λ p. p.0 ∷ bool_text p.1 ∷ []) (λ p. IsName p.0 × Always p.1)
changes = both_exact name_at bool_at (λ name. name ∷ []) (λ b. bool_text b ∷ []) IsName Always names_one bools

space_sound : (front t rest : List ℕ) → behind_space front t ≡ Some rest → t ≡ 32 ∷ (front ++ rest)
unfolding behind_space
space_sound front [] rest h = absurd (let no : ⊥ = cc in no)
space_sound front (b ∷ bs) rest h =
    let c : ((b == 32) ≡ true) × (behind_text front bs ≡ Some rest) = chosen (b == 32) (behind_text front bs) rest h in
    ap (λ x. x ∷ bs) (eqb-true b 32 c.0) ∙ ap (λ x. 32 ∷ x) (text_sound front bs rest c.1)

space_complete : (front rest : List ℕ) → behind_space front (32 ∷ (front ++ rest)) ≡ Some rest
unfolding behind_space
space_complete front rest = text_complete front rest

-- what stands behind an event's name
Behind : EventKind → List ℕ → FiredEvent × List ℕ → Type 0
Behind k t q = (32 ∷ (event_word k ++ t) ≡ before (event_fields q.0) q.1) × EventFits q.0

event_by_sound : (k : EventKind) (t : List ℕ) (q : FiredEvent × List ℕ) → event_by k t ≡ Some q → Behind k t q
unfolding event_by event_fields Behind
event_by_sound event.Resize t q h =
    let w = built window_at (λ name. window_text name ∷ []) IsName FiredResize windows t q h in
    let T : FiredEvent → Type 0 = λ e. (32 ∷ (codes "resize" ++ t) ≡ before (event_fields e) q.1) × EventFits e in
    subst T w.1 (ap (λ x. 32 ∷ (codes "resize" ++ x)) w.2, w.3)
event_by_sound event.Scroll t q h =
    let w = built name_at (λ name. name ∷ []) IsName FiredScroll names_one t q h in
    let T : FiredEvent → Type 0 = λ e. (32 ∷ (codes "scroll" ++ t) ≡ before (event_fields e) q.1) × EventFits e in
    subst T w.1 (ap (λ x. 32 ∷ (codes "scroll" ++ x)) w.2, w.3)
event_by_sound event.Change t q h =
    let w = built (both name_at bool_at) (λ p. p.0 ∷ bool_text p.1 ∷ []) (λ p. IsName p.0 × Always p.1) (λ (p : Change). FiredChange p.0 p.1) changes t q h in
    let T : FiredEvent → Type 0 = λ e. (32 ∷ (codes "change" ++ t) ≡ before (event_fields e) q.1) × EventFits e in
    subst T w.1 (ap (λ x. 32 ∷ (codes "change" ++ x)) w.2, w.3.0)
event_by_sound event.Error t q h =
    let d = parts (window_at t) (λ document. behind_space loop_error document.1 >>= λ rest. Some (FiredError document.0, rest)) q h in
    let r = parts (behind_space loop_error d.0.1) (λ rest. Some (FiredError d.0.0, rest)) q d.2 in
    let e : (FiredError d.0.0, r.0) ≡ q = some_same _ q r.2 in
    let x : (t ≡ before (window_text d.0.0 ∷ []) d.0.1) × IsName d.0.0 = windows.sound t d.0 d.1 in
    let T : FiredEvent × List ℕ → Type 0 = λ q. (32 ∷ (codes "error" ++ t) ≡ before (event_fields q.0) q.1) × EventFits q.0 in
    subst T e
    (ap (λ x. 32 ∷ (codes "error" ++ x)) x.0 ∙ ap (λ x. 32 ∷ (codes "error" ++ before (window_text d.0.0 ∷ []) x)) (space_sound loop_error d.0.1 r.0 r.1), x.1)

event_sound : (t : List ℕ) (q : FiredEvent × List ℕ) → event_at t ≡ Some q → (t ≡ before (event_fields q.0) q.1) × EventFits q.0
unfolding event_at Behind
event_sound t q h =
    let k = parts (value_at event_of t) (λ k. event_by k.0 k.1) q h in
    let x = events.sound t k.0 k.1 in
    let y = event_by_sound k.0.0 k.0.1 q k.2 in
    (x.0 ∙ y.0, y.1)

-- the name of an event is read
event_named : (k : EventKind) (more : List (List ℕ)) → event_at (line_end (event_word k ∷ more)) ≡ event_by k (line_end more)
unfolding event_at
event_named k more = ap (λ o. o >>= λ k. event_by k.0 k.1) (events.complete k more tt)

event_complete : (e : FiredEvent) (more : List (List ℕ)) → EventFits e → event_at (line_end (event_fields e ++ more)) ≡ Some (e, line_end more)
unfolding event_by event_fields
event_complete (FiredResize document) more h =
    event_named event.Resize (window_text document ∷ more) ∙ built_again window_at (λ name. window_text name ∷ []) IsName FiredResize windows document more h
event_complete (FiredScroll target) more h =
    event_named event.Scroll (target ∷ more) ∙ built_again name_at (λ name. name ∷ []) IsName FiredScroll names_one target more h
event_complete (FiredChange query matches) more h =
    event_named event.Change (query ∷ bool_text matches ∷ more)
    ∙ built_again (both name_at bool_at) (λ p. p.0 ∷ bool_text p.1 ∷ []) (λ p. IsName p.0 × Always p.1) (λ (p : Change). FiredChange p.0 p.1) changes (query, matches) more (h, tt)
event_complete (FiredError document) more h =
    event_named event.Error (window_text document ∷ loop_error ∷ more)
    ∙ ap (λ o. o >>= λ d. behind_space loop_error d.1 >>= λ rest. Some (FiredError d.0, rest)) (windows.complete document (loop_error ∷ more) h)
    ∙ ap (λ o. o >>= λ rest. Some (FiredError document, rest)) (space_complete loop_error (line_end more))

window_clean : (name : List ℕ) (more : List (List ℕ)) → IsName name → list_all is_no_feed (before more []) ≡ true → list_all is_no_feed (before (window_text name ∷ more) []) ≡ true
window_clean name more h rest = first_clean (window_text name) more (field_clean name (name_field name h)) rest

event_clean : (e : FiredEvent) → EventFits e → list_all is_no_feed (before (event_fields e) []) ≡ true
unfolding event_fields
event_clean (FiredResize document) h = window_clean document [] h refl
event_clean (FiredScroll target) h = first_clean target [] (field_clean target (name_field target h)) refl
event_clean (FiredChange query matches) h = changes.clean (query, matches) (h, tt)
event_clean (FiredError document) h = window_clean document (loop_error ∷ []) h refl

events_at : ExactAt event_at event_fields EventFits
events_at = record { sound = event_sound; complete = event_complete; clean = event_clean }

-- ---- the fields of each kind

abbrev Names : Type 0
Names = List ℕ × List ℕ

abbrev two_names : Names → List (List ℕ)
two_names p = p.0 ∷ p.1 ∷ []

abbrev AreNames : Names → Type 0
AreNames p = IsName p.0 × IsName p.1

abbrev number : ℕ → List (List ℕ)
number n = decimal n ∷ []

abbrev one_name : List ℕ → List (List ℕ)
one_name name = name ∷ []

abbrev Counted : Type 0
Counted = List ℕ × ℕ

abbrev counted : Counted → List (List ℕ)
counted p = p.0 ∷ decimal p.1 ∷ []

rounds : ExactAt (both name_at u32_at) counted (λ p. IsName p.0 × (p.1 < 2 ^ 32))
rounds = both_exact name_at u32_at one_name number IsName (λ n. n < 2 ^ 32) names_one u32s

takes : ExactAt (both name_at u64_at) counted (λ p. IsName p.0 × (p.1 < 2 ^ 64))
takes = both_exact name_at u64_at one_name number IsName (λ n. n < 2 ^ 64) names_one u64s

abbrev behind_fields : {A : Type 0} → List ℕ → (A → List (List ℕ)) → A → List (List ℕ)
behind_fields word f a = word ∷ f a

abbrev Boxes : Type 0
Boxes = Rect × (Size × Option Size)

abbrev Resized : Type 0
Resized = Names × Boxes

abbrev boxes : Boxes → List (List ℕ)
boxes p = behind_fields (codes "rect") rect_fields p.0 ++ (behind_fields (codes "border") size_fields p.1.0 ++ device_fields p.1.1)

abbrev BoxesReach : Boxes → Type 0
BoxesReach p = RectReaches p.0 × (SizeReaches p.1.0 × IfSome p.1.1 SizeReaches)

abbrev boxes_at : List ℕ → Read Boxes
boxes_at = both (behind (codes "rect") rect_at) (both (behind (codes "border") size_at) device_at)

abbrev resized : Resized → List (List ℕ)
resized p = two_names p.0 ++ boxes p.1

abbrev ResizedFits : Resized → Type 0
ResizedFits p = AreNames p.0 × BoxesReach p.1

resizes : ExactLast (both names_at boxes_at) resized ResizedFits
resizes =
    both_last names_at boxes_at two_names boxes AreNames BoxesReach names_two
    (both_last (behind (codes "rect") rect_at) (both (behind (codes "border") size_at) device_at) (behind_fields (codes "rect") rect_fields)
    (λ p. behind_fields (codes "border") size_fields p.0 ++ device_fields p.1) RectReaches (λ p. SizeReaches p.0 × IfSome p.1 SizeReaches)
    (behind_exact (codes "rect") rect_at rect_fields RectReaches refl rects)
    (both_last (behind (codes "border") size_at) device_at (behind_fields (codes "border") size_fields) device_fields SizeReaches (λ device. IfSome device SizeReaches)
    (behind_exact (codes "border") size_at size_fields SizeReaches refl sizes) devices))

abbrev Place : Type 0
Place = List ℕ × (Rect × Point)

abbrev placed : Place → List (List ℕ)
placed p = one_name p.0 ++ (rect_fields p.1.0 ++ point_fields p.1.1)

abbrev PlacedFits : Place → Type 0
PlacedFits p = IsName p.0 × (RectReaches p.1.0 × PointReaches p.1.1)

reads : ExactAt (both name_at (both rect_at point_at)) placed PlacedFits
reads =
    both_exact name_at (both rect_at point_at) one_name (λ p. rect_fields p.0 ++ point_fields p.1) IsName (λ p. RectReaches p.0 × PointReaches p.1) names_one
    (both_exact rect_at point_at rect_fields point_fields RectReaches PointReaches rects points)

abbrev Threw : Type 0
Threw = ℕ × ThrowKind

abbrev threw : Threw → List (List ℕ)
threw p = number p.0 ++ (throw_word p.1 ∷ [])

abbrev ThrewFits : Threw → Type 0
ThrewFits p = (p.0 < 2 ^ 32) × Always p.1

throwing : ExactAt (both u32_at throw_at) threw ThrewFits
throwing = both_exact u32_at throw_at number (λ k. throw_word k ∷ []) (λ n. n < 2 ^ 32) Always u32s throws

abbrev Numbers : Type 0
Numbers = ℕ × ℕ

abbrev two_numbers : Numbers → List (List ℕ)
two_numbers p = number p.0 ++ number p.1

abbrev Limited : Type 0
Limited = LimitKind × Numbers

abbrev limited : Limited → List (List ℕ)
limited p = (limit_word p.0 ∷ []) ++ two_numbers p.1

abbrev LimitedFits : Limited → Type 0
LimitedFits p = Always p.0 × ((p.1.0 < 2 ^ 32) × (p.1.1 < 2 ^ 64))

limiting : ExactAt (both limit_at (both u32_at u64_at)) limited LimitedFits
limiting =
    both_exact limit_at (both u32_at u64_at) (λ k. limit_word k ∷ []) two_numbers Always (λ p. (p.0 < 2 ^ 32) × (p.1 < 2 ^ 64)) limits
    (both_exact u32_at u64_at number number (λ n. n < 2 ^ 32) (λ n. n < 2 ^ 64) u32s u64s)

faults : ExactAt (both u32_at u32_at) two_numbers (λ p. (p.0 < 2 ^ 32) × (p.1 < 2 ^ 32))
faults = both_exact u32_at u32_at number number (λ n. n < 2 ^ 32) (λ n. n < 2 ^ 32) u32s u32s

-- ---- intersections

abbrev seen_fields : Seen → List (List ℕ)
seen_fields p = two_names p.0 ++ (number p.1.0 ++ ((meets_text p.1.1.0 ∷ []) ++ (ratio_text_of p.1.1.1 ∷ [])))

abbrev SeenFits : Seen → Type 0
SeenFits p = AreNames p.0 × ((p.1.0 < 2 ^ 64) × (Always p.1.1.0 × RatioFits p.1.1.1))

sights : ExactAt seen_at seen_fields SeenFits
sights =
    both_exact names_at (both u64_at (both meets_at ratio_at)) two_names (λ p. number p.0 ++ ((meets_text p.1.0 ∷ []) ++ (ratio_text_of p.1.1 ∷ []))) AreNames (λ p. (p.0 < 2 ^ 64) × (Always p.1.0 × RatioFits p.1.1)) names_two
    (both_exact u64_at (both meets_at ratio_at) number (λ p. (meets_text p.0 ∷ []) ++ (ratio_text_of p.1 ∷ [])) (λ n. n < 2 ^ 64) (λ p. Always p.0 × RatioFits p.1) u64s
    (both_exact meets_at ratio_at (λ b. meets_text b ∷ []) (λ p. ratio_text_of p ∷ []) Always RatioFits meetings ratios))

abbrev three_fields : Rects → List (List ℕ)
three_fields p = behind_fields (codes "root") rect_fields p.0 ++ (behind_fields (codes "box") rect_fields p.1.0 ++ behind_fields (codes "cut") rect_fields p.1.1)

abbrev ThreeReach : Rects → Type 0
ThreeReach p = RectReaches p.0 × (RectReaches p.1.0 × RectReaches p.1.1)

rects_behind : (word : List ℕ) → list_all is_field_byte word ≡ true → ExactAt (behind word rect_at) (behind_fields word rect_fields) RectReaches
rects_behind word all = behind_exact word rect_at rect_fields RectReaches all rects

threes : ExactAt rects_at three_fields ThreeReach
threes =
    both_exact (behind (codes "root") rect_at) (both (behind (codes "box") rect_at) (behind (codes "cut") rect_at)) (behind_fields (codes "root") rect_fields)
    (λ p. behind_fields (codes "box") rect_fields p.0 ++ behind_fields (codes "cut") rect_fields p.1) RectReaches (λ p. RectReaches p.0 × RectReaches p.1) (rects_behind (codes "root") refl)
    (both_exact (behind (codes "box") rect_at) (behind (codes "cut") rect_at) (behind_fields (codes "box") rect_fields) (behind_fields (codes "cut") rect_fields) RectReaches RectReaches
    (rects_behind (codes "box") refl) (rects_behind (codes "cut") refl))

abbrev entry_fields : Seen × Rects → List (List ℕ)
entry_fields p = seen_fields p.0 ++ three_fields p.1

abbrev EntryAll : Seen × Rects → Type 0
EntryAll p = SeenFits p.0 × ThreeReach p.1

entries : ExactAt (both seen_at rects_at) entry_fields EntryAll
entries = both_exact seen_at rects_at seen_fields three_fields SeenFits ThreeReach sights threes

abbrev entry_parts : Intersection → Seen × Rects
entry_parts found = (((found.observer, found.target), (found.time, (found.meets, (found.part, found.whole)))), (found.root, (found.bounds, found.cut)))

entry_all : (found : Intersection) → EntryFits found → EntryReaches found → EntryAll (entry_parts found)
entry_all found fits reach = (((fits.observer, fits.target), (fits.time, (tt, (fits.part, fits.whole)))), (reach.root, (reach.bounds, reach.cut)))

entry_line : (p : Seen × Rects) → EntryAll p → IsLine (IntersectLine (entry p))
entry_line p fits = record {
  fits = record { observer = fits.0.0.0; target = fits.0.0.1; time = fits.0.1.0; part = fits.0.1.1.1.0; whole = fits.0.1.1.1.1 };
  reach = record { root = fits.1.0; bounds = fits.1.1.0; cut = fits.1.1.1 };
}

entry_fields_are : (p : Seen × Rects) → entry_fields p ≡ intersection_fields (entry p)
unfolding intersection_fields rect_fields ratio_text
entry_fields_are p = refl

-- ---- lines

-- fields that are read are those of the line made of them, which is of this kind
record IsExact {A : Type 0} (k : LineKind) (r : List ℕ → Read A) (f : A → List (List ℕ)) (F : A → Type 0) (make : A → TraceLine) : Type 0 where
  exact : ExactLast r f F
  each : (a : A) → F a → (f a ≡ fields_of (make a)) × (kind_text (make a) ≡ kind_word k) × IsLine (make a)

-- fields of a line of this kind before a rest
abbrev Stands : LineKind → List ℕ → List ℕ → TraceLine → Type 0
Stands k t rest l = (t ≡ before (fields_of l) rest) × (kind_text l ≡ kind_word k) × IsLine l

stands : {A : Type 0} (k : LineKind) (r : List ℕ → Read A) (f : A → List (List ℕ)) (F : A → Type 0) (make : A → TraceLine) → IsExact k r f F make
    → (t : List ℕ) (q : TraceLine × List ℕ) → (r t >>= made make) ≡ Some q → Stands k t q.1 q.0
stands k r f F make line t q h =
    let b = built_last r f F make line.exact t q h in
    let e = line.each b.0 b.3 in
    let T : TraceLine → Type 0 = λ l. Stands k t q.1 l in
    subst T b.1 (b.2 ∙ ap (λ fields. before fields q.1) e.0, e.1, e.2)

again : {A : Type 0} (k : LineKind) (r : List ℕ → Read A) (f : A → List (List ℕ)) (F : A → Type 0) (make : A → TraceLine) → IsExact k r f F make
    → (a : A) → F a → (r (line_end (fields_of (make a))) >>= made make) ≡ Some (make a, 10 ∷ [])
again k r f F make line a fits =
    ap (λ fields. r (line_end fields) >>= made make) (sym (line.each a fits).0) ∙ built_whole r f F make line.exact a fits

clean : {A : Type 0} (k : LineKind) (r : List ℕ → Read A) (f : A → List (List ℕ)) (F : A → Type 0) (make : A → TraceLine) → IsExact k r f F make
    → (a : A) → F a → list_all is_no_feed (before (fields_of (make a)) []) ≡ true
clean k r f F make line a fits = ap (λ fields. list_all is_no_feed (before fields [])) (sym (line.each a fits).0) ∙ line.exact.clean a fits

tick_line : IsExact kind.Tick u64_at number (λ n. n < 2 ^ 64) TickLine
unfolding fields_of
tick_line = record { exact = as_last u64s; each = λ n h. (refl, refl, record { fits = h; reach = tt }) }

timer_line : IsExact kind.Timer names_at two_names AreNames (λ (p : Names). TimerLine p.0 p.1)
unfolding fields_of
timer_line = record { exact = as_last names_two; each = λ p h. (refl, refl, record { fits = h; reach = tt }) }

frame_line : IsExact kind.Frame names_at two_names AreNames (λ (p : Names). FrameLine p.0 p.1)
unfolding fields_of
frame_line = record { exact = as_last names_two; each = λ p h. (refl, refl, record { fits = h; reach = tt }) }

task_line : IsExact kind.Task names_at two_names AreNames (λ (p : Names). TaskLine p.0 p.1)
unfolding fields_of
task_line = record { exact = as_last names_two; each = λ p h. (refl, refl, record { fits = h; reach = tt }) }

event_line : IsExact kind.Event event_at event_fields EventFits EventLine
unfolding fields_of
event_line = record { exact = as_last events_at; each = λ e h. (refl, refl, record { fits = h; reach = tt }) }

resize_line : IsExact kind.Resize (both names_at boxes_at) resized ResizedFits (λ (p : Resized). ResizeLine p.0.0 p.0.1 p.1.0 p.1.1.0 p.1.1.1)
unfolding fields_of rect_fields size_fields
resize_line = record { exact = resizes; each = λ p h. (refl, refl, record { fits = h.0; reach = (h.1.0, h.1.1.0, h.1.1.1) }) }

round_line : IsExact kind.Round (both name_at u32_at) counted (λ p. IsName p.0 × (p.1 < 2 ^ 32)) (λ (p : Counted). RoundLine p.0 p.1)
unfolding fields_of
round_line = record { exact = as_last rounds; each = λ p h. (refl, refl, record { fits = h; reach = tt }) }

intersect_line : IsExact kind.Intersect (both seen_at rects_at) entry_fields EntryAll (λ p. IntersectLine (entry p))
unfolding fields_of
intersect_line = record { exact = as_last entries; each = λ p h. (entry_fields_are p, refl, entry_line p h) }

take_line : IsExact kind.Take (both name_at u64_at) counted (λ p. IsName p.0 × (p.1 < 2 ^ 64)) (λ (p : Counted). TakeLine p.0 p.1)
unfolding fields_of
take_line = record { exact = as_last takes; each = λ p h. (refl, refl, record { fits = h; reach = tt }) }

say_line : IsExact kind.Say name_at one_name IsName SayLine
unfolding fields_of
say_line = record { exact = as_last names_one; each = λ p h. (refl, refl, record { fits = h; reach = tt }) }

read_line : IsExact kind.Read (both name_at (both rect_at point_at)) placed PlacedFits (λ (p : Place). ReadLine p.0 p.1.0 p.1.1)
unfolding fields_of
read_line = record { exact = as_last reads; each = λ p h. (refl, refl, record { fits = h.0; reach = h.1 }) }

throw_line : IsExact kind.Throw (both u32_at throw_at) threw ThrewFits (λ (p : Threw). ThrowLine p.0 p.1)
unfolding fields_of
throw_line = record { exact = as_last throwing; each = λ p h. (refl, refl, record { fits = h.0; reach = tt }) }

limit_line : IsExact kind.Limit (both limit_at (both u32_at u64_at)) limited LimitedFits (λ (p : Limited). LimitLine p.0 p.1.0 p.1.1)
unfolding fields_of
limit_line = record { exact = as_last limiting; each = λ p h. (refl, refl, record { fits = h.1; reach = tt }) }

syntax_line : IsExact kind.Syntax (both u32_at u32_at) two_numbers (λ p. (p.0 < 2 ^ 32) × (p.1 < 2 ^ 32)) (λ (p : Numbers). SyntaxLine p.0 p.1)
unfolding fields_of
syntax_line = record { exact = as_last faults; each = λ p h. (refl, refl, record { fits = h; reach = tt }) }

line_by_sound : (k : LineKind) (t : List ℕ) (q : TraceLine × List ℕ) → line_by k t ≡ Some q → Stands k t q.1 q.0
unfolding line_by
line_by_sound kind.Tick t q h = stands kind.Tick u64_at number (λ n. n < 2 ^ 64) TickLine tick_line t q h
line_by_sound kind.Timer t q h = stands kind.Timer names_at two_names AreNames (λ (p : Names). TimerLine p.0 p.1) timer_line t q h
line_by_sound kind.Frame t q h = stands kind.Frame names_at two_names AreNames (λ (p : Names). FrameLine p.0 p.1) frame_line t q h
line_by_sound kind.Task t q h = stands kind.Task names_at two_names AreNames (λ (p : Names). TaskLine p.0 p.1) task_line t q h
line_by_sound kind.Event t q h = stands kind.Event event_at event_fields EventFits EventLine event_line t q h
line_by_sound kind.Resize t q h = stands kind.Resize (both names_at boxes_at) resized ResizedFits (λ (p : Resized). ResizeLine p.0.0 p.0.1 p.1.0 p.1.1.0 p.1.1.1) resize_line t q h
line_by_sound kind.Round t q h = stands kind.Round (both name_at u32_at) counted (λ p. IsName p.0 × (p.1 < 2 ^ 32)) (λ (p : Counted). RoundLine p.0 p.1) round_line t q h
line_by_sound kind.Intersect t q h = stands kind.Intersect (both seen_at rects_at) entry_fields EntryAll (λ p. IntersectLine (entry p)) intersect_line t q h
line_by_sound kind.Take t q h = stands kind.Take (both name_at u64_at) counted (λ p. IsName p.0 × (p.1 < 2 ^ 64)) (λ (p : Counted). TakeLine p.0 p.1) take_line t q h
line_by_sound kind.Say t q h = stands kind.Say name_at one_name IsName SayLine say_line t q h
line_by_sound kind.Read t q h = stands kind.Read (both name_at (both rect_at point_at)) placed PlacedFits (λ (p : Place). ReadLine p.0 p.1.0 p.1.1) read_line t q h
line_by_sound kind.Throw t q h = stands kind.Throw (both u32_at throw_at) threw ThrewFits (λ (p : Threw). ThrowLine p.0 p.1) throw_line t q h
line_by_sound kind.Limit t q h = stands kind.Limit (both limit_at (both u32_at u64_at)) limited LimitedFits (λ (p : Limited). LimitLine p.0 p.1.0 p.1.1) limit_line t q h
line_by_sound kind.Syntax t q h = stands kind.Syntax (both u32_at u32_at) two_numbers (λ p. (p.0 < 2 ^ 32) × (p.1 < 2 ^ 32)) (λ (p : Numbers). SyntaxLine p.0 p.1) syntax_line t q h

-- the line is read by its kind, and its fields have no line feed
Written : TraceLine → Type 0
Written l = (k : LineKind) × (kind_word k ≡ kind_text l) × (line_by k (line_end (fields_of l)) ≡ Some (l, 10 ∷ [])) × (list_all is_no_feed (before (fields_of l) []) ≡ true)

line_written : (l : TraceLine) → IsLine l → Written l
unfolding Written line_by
line_written (TickLine time) h = (kind.Tick, refl, again kind.Tick u64_at number (λ n. n < 2 ^ 64) TickLine tick_line time h.fits, clean kind.Tick u64_at number (λ n. n < 2 ^ 64) TickLine tick_line time h.fits)
line_written (TimerLine document key) h = (kind.Timer, refl, again kind.Timer names_at two_names AreNames (λ (p : Names). TimerLine p.0 p.1) timer_line (document, key) h.fits, clean kind.Timer names_at two_names AreNames (λ (p : Names). TimerLine p.0 p.1) timer_line (document, key) h.fits)
line_written (FrameLine document key) h = (kind.Frame, refl, again kind.Frame names_at two_names AreNames (λ (p : Names). FrameLine p.0 p.1) frame_line (document, key) h.fits, clean kind.Frame names_at two_names AreNames (λ (p : Names). FrameLine p.0 p.1) frame_line (document, key) h.fits)
line_written (TaskLine document handler) h = (kind.Task, refl, again kind.Task names_at two_names AreNames (λ (p : Names). TaskLine p.0 p.1) task_line (document, handler) h.fits, clean kind.Task names_at two_names AreNames (λ (p : Names). TaskLine p.0 p.1) task_line (document, handler) h.fits)
line_written (EventLine fired) h = (kind.Event, refl, again kind.Event event_at event_fields EventFits EventLine event_line fired h.fits, clean kind.Event event_at event_fields EventFits EventLine event_line fired h.fits)
line_written (ResizeLine observer target rect border device) h = (kind.Resize, refl, again kind.Resize (both names_at boxes_at) resized ResizedFits (λ (p : Resized). ResizeLine p.0.0 p.0.1 p.1.0 p.1.1.0 p.1.1.1) resize_line ((observer, target), (rect, (border, device))) (h.fits, (h.reach.0, (h.reach.1, h.reach.2))), clean kind.Resize (both names_at boxes_at) resized ResizedFits (λ (p : Resized). ResizeLine p.0.0 p.0.1 p.1.0 p.1.1.0 p.1.1.1) resize_line ((observer, target), (rect, (border, device))) (h.fits, (h.reach.0, (h.reach.1, h.reach.2))))
line_written (RoundLine document depth) h = (kind.Round, refl, again kind.Round (both name_at u32_at) counted (λ p. IsName p.0 × (p.1 < 2 ^ 32)) (λ (p : Counted). RoundLine p.0 p.1) round_line (document, depth) h.fits, clean kind.Round (both name_at u32_at) counted (λ p. IsName p.0 × (p.1 < 2 ^ 32)) (λ (p : Counted). RoundLine p.0 p.1) round_line (document, depth) h.fits)
line_written (IntersectLine found) h = (kind.Intersect, refl, again kind.Intersect (both seen_at rects_at) entry_fields EntryAll (λ p. IntersectLine (entry p)) intersect_line (entry_parts found) (entry_all found h.fits h.reach), clean kind.Intersect (both seen_at rects_at) entry_fields EntryAll (λ p. IntersectLine (entry p)) intersect_line (entry_parts found) (entry_all found h.fits h.reach))
line_written (TakeLine observer count) h = (kind.Take, refl, again kind.Take (both name_at u64_at) counted (λ p. IsName p.0 × (p.1 < 2 ^ 64)) (λ (p : Counted). TakeLine p.0 p.1) take_line (observer, count) h.fits, clean kind.Take (both name_at u64_at) counted (λ p. IsName p.0 × (p.1 < 2 ^ 64)) (λ (p : Counted). TakeLine p.0 p.1) take_line (observer, count) h.fits)
line_written (SayLine word) h = (kind.Say, refl, again kind.Say name_at one_name IsName SayLine say_line word h.fits, clean kind.Say name_at one_name IsName SayLine say_line word h.fits)
line_written (ReadLine target rect scroll) h = (kind.Read, refl, again kind.Read (both name_at (both rect_at point_at)) placed PlacedFits (λ (p : Place). ReadLine p.0 p.1.0 p.1.1) read_line (target, (rect, scroll)) (h.fits, h.reach), clean kind.Read (both name_at (both rect_at point_at)) placed PlacedFits (λ (p : Place). ReadLine p.0 p.1.0 p.1.1) read_line (target, (rect, scroll)) (h.fits, h.reach))
line_written (ThrowLine row exception) h = (kind.Throw, refl, again kind.Throw (both u32_at throw_at) threw ThrewFits (λ (p : Threw). ThrowLine p.0 p.1) throw_line (row, exception) (h.fits, tt), clean kind.Throw (both u32_at throw_at) threw ThrewFits (λ (p : Threw). ThrowLine p.0 p.1) throw_line (row, exception) (h.fits, tt))
line_written (LimitLine limit row most) h = (kind.Limit, refl, again kind.Limit (both limit_at (both u32_at u64_at)) limited LimitedFits (λ (p : Limited). LimitLine p.0 p.1.0 p.1.1) limit_line (limit, (row, most)) (tt, h.fits), clean kind.Limit (both limit_at (both u32_at u64_at)) limited LimitedFits (λ (p : Limited). LimitLine p.0 p.1.0 p.1.1) limit_line (limit, (row, most)) (tt, h.fits))
line_written (SyntaxLine row column) h = (kind.Syntax, refl, again kind.Syntax (both u32_at u32_at) two_numbers (λ p. (p.0 < 2 ^ 32) × (p.1 < 2 ^ 32)) (λ (p : Numbers). SyntaxLine p.0 p.1) syntax_line (row, column) h.fits, clean kind.Syntax (both u32_at u32_at) two_numbers (λ p. (p.0 < 2 ^ 32) × (p.1 < 2 ^ 32)) (λ (p : Numbers). SyntaxLine p.0 p.1) syntax_line (row, column) h.fits)

kind_named : (k : LineKind) → (kind_of (kind_word k) ≡ Some k) × (list_all is_field_byte (kind_word k) ≡ true)
unfolding named
kind_named kind.Tick = (refl, refl)
kind_named kind.Timer = (refl, refl)
kind_named kind.Frame = (refl, refl)
kind_named kind.Task = (refl, refl)
kind_named kind.Event = (refl, refl)
kind_named kind.Resize = (refl, refl)
kind_named kind.Round = (refl, refl)
kind_named kind.Intersect = (refl, refl)
kind_named kind.Take = (refl, refl)
kind_named kind.Say = (refl, refl)
kind_named kind.Read = (refl, refl)
kind_named kind.Throw = (refl, refl)
kind_named kind.Limit = (refl, refl)
kind_named kind.Syntax = (refl, refl)

-- ---- whole texts

pub read_sound : (text : List ℕ) (l : TraceLine) → line_of text ≡ Some l → (line_text l ≡ text) × IsLine l
unfolding line_of
read_sound text l h =
    let k = parts (kind_of (field_of text)) (λ k. line_by k (behind_field text) >>= ended) l h in
    let q = parts (line_by k.0 (behind_field text)) ended l k.2 in
    let c : (bytes_eq q.0.1 (10 ∷ []) ≡ true) × (Some q.0.0 ≡ Some l) = chosen (bytes_eq q.0.1 (10 ∷ [])) (Some q.0.0) l q.2 in
    let s : Stands k.0 (behind_field text) q.0.1 q.0.0 = line_by_sound k.0 (behind_field text) q.0 q.1 in
    let word : kind_word k.0 ≡ field_of text = named_sound kind_word line_kinds (field_of text) k.0 k.1 in
    let end : q.0.1 ≡ 10 ∷ [] = (bytes_eq-Decides q.0.1 (10 ∷ [])).0 c.0 in
    let T : TraceLine → Type 0 = λ l. (line_text l ≡ text) × IsLine l in
    subst T (some_same q.0.0 l c.1) (
      line_text_before q.0.0 ∙ ap (λ w. w ++ line_end (fields_of q.0.0)) (s.1 ∙ word)
          ∙ ap (λ rest. field_of text ++ before (fields_of q.0.0) rest) (sym end)
          ∙ ap (λ x. field_of text ++ x) (sym s.0) ∙ field_first text,
      s.2,
    )

pub read_complete : (l : TraceLine) → IsLine l → line_of (line_text l) ≡ Some l
unfolding line_of Written
read_complete l h =
    let k = line_written l h in
    let named_so = kind_named k.0 in
    let text : List ℕ = kind_word k.0 ++ line_end (fields_of l) in
    let same : line_text l ≡ text = line_text_before l ∙ ap (λ w. w ++ line_end (fields_of l)) (sym k.1) in
    ap line_of same
    ∙ ap (λ w. kind_of w >>= λ k. line_by k (behind_field text) >>= ended) (field_of_first (kind_word k.0) (fields_of l) named_so.1)
    ∙ ap (λ o. o >>= λ k. line_by k (behind_field text) >>= ended) named_so.0
    ∙ ap (λ x. line_by k.0 x >>= ended) (behind_field_first (kind_word k.0) (fields_of l) named_so.1)
    ∙ ap (λ o. o >>= ended) k.2

pub one_line : (a b : TraceLine) → IsLine a → IsLine b → line_text a ≡ line_text b → a ≡ b
one_line a b first second same = some_same a b (sym (read_complete a first) ∙ ap line_of same ∙ read_complete b second)

before_rest : (fields : List (List ℕ)) (rest : List ℕ) → before fields rest ≡ before fields [] ++ rest
before_rest [] rest = refl
before_rest (field ∷ fields) rest = ap (λ x. 32 ∷ (field ++ x)) (before_rest fields rest) ∙ ap (λ x. 32 ∷ x) (sym (append_assoc field (before fields []) rest))

no_feeds : (bytes : List ℕ) → list_all is_no_feed bytes ≡ true → All (λ byte. byte ≢ 10) bytes
no_feeds [] all = λ k d h. absurd (omega arith)
no_feeds (b ∷ bs) all =
    let both = and_parts (is_no_feed b) (list_all is_no_feed bs) all in
    All-cons (λ byte. byte ≢ 10) b bs (λ e. let feed : (b == 10) ≡ true = eq-eqb b 10 e in let no : not true ≡ true = ap not (sym feed) ∙ both.0 in cc) (no_feeds bs both.1)

pub feed_once : (l : TraceLine) → IsLine l → (front : List ℕ) × (line_text l ≡ front ++ (10 ∷ [])) × All (λ byte. byte ≢ 10) front
unfolding Written
feed_once l h =
    let k = line_written l h in
    let front : List ℕ = kind_word k.0 ++ before (fields_of l) [] in (
      front,
      line_text_before l ∙ ap (λ w. w ++ line_end (fields_of l)) (sym k.1) ∙ ap (λ x. kind_word k.0 ++ x) (before_rest (fields_of l) (10 ∷ []))
          ∙ sym (append_assoc (kind_word k.0) (before (fields_of l) []) (10 ∷ [])),
      no_feeds front
          (list_all-append is_no_feed (kind_word k.0) (before (fields_of l) [])
          ∙ ap (λ b. b && list_all is_no_feed (before (fields_of l) [])) (field_clean (kind_word k.0) (kind_named k.0).1) ∙ k.3),
    )
