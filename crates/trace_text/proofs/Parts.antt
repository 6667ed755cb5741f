-- The fields of lines, each read as what it writes.
use Rattle.std.proofs.Common.{◌≡◌, ◌∙◌, refl, sym, ap, subst, ℕ, ◌-◌, ◌^◌, ◌<◌, Bool, true, false, cond, ◌&&◌, nat_le, List, [], ◌∷◌, ◌++◌, length, take, drop, Option, Some, None, ℤ, arith}
use Rattle.std.specs.Prelude.{◌==◌, bytes_eq, ◌+ℤ◌, ◌-ℤ◌, int_le, negsuc, pos, IfSome, codes}
use Rattle.std.specs.List.{list_all, find}
use Rattle.std.proofs.lemmas.Bool.{and_parts, eqb-true}
use Rattle.std.proofs.lemmas.Bool.Decides.{nat_tests}
use Rattle.std.proofs.lemmas.Int.{ints}
use Rattle.std.proofs.lemmas.List.{take-append-drop}
use Rattle.std.proofs.lemmas.Slice.Eq.{bytes_eq-Decides}
use Rattle.std.proofs.Math.Seq.{take-append_seam, drop-append_seam}
use Rattle.word_model.specs.Names.{is_letter, is_name_byte, is_name}
use Rattle.word_model.specs.Numbers.{decimal}
use Rattle.px_units.specs.declared.Rect.{Rect}
use Rattle.px_units.specs.declared.Point.{Point}
use Rattle.px_units.specs.declared.Size.{Size}
use Rattle.px_units.specs.Texts.{pixel_text}
use Rattle.px_units.specs.Rects.{InReach}
use Rattle.text_io.specs.Kinds.{limit_word, throw_word, event_word}
use Rattle.text_io.specs.declared.kinds.EventKind.{EventKind}
use Rattle.text_io.specs.declared.kinds.EventKind.TheVariants as event
use Rattle.text_io.specs.declared.kinds.ThrowKind.{ThrowKind}
use Rattle.text_io.specs.declared.kinds.ThrowKind.TheVariants.{ReferenceError, TypeError, HierarchyRequestError, NotFoundError, SyntaxError, RangeError}
use Rattle.text_io.specs.declared.kinds.LimitKind.{LimitKind}
use Rattle.text_io.specs.declared.kinds.LimitKind.TheVariants.{Script, Line, Handlers, Nesting, Commands, Nodes, Depth, Documents, ResizeObservers, IntersectionObservers, ResizeObservations, IntersectionObservations, Listeners, Timers, FrameCallbacks, Tasks, Queries, Recorded, Pages}
use Rattle.script_model.specs.TraceText.{window_text, bool_text, meets_text, rect_fields, size_fields, whole_text, device_fields, point_fields}
use Rattle.trace_text.specs.Fields.{is_field_byte, before}
use Rattle.trace_text.specs.Ranges.{RectReaches, SizeReaches, PointReaches, IsName}
use Rattle.text_io.specs.Kinds.{named, event_of, event_kinds, throw_of, throw_kinds, limit_of, limit_kinds}
use Rattle.trace_text.specs.Reading.{◌>>=◌, Read, value_at, both, behind, name_of, name_at, names_at, window_of, window_at, number_of, number_at, u32_at, u64_at, ratio_of, ratio_at, bool_of, bool_at, meets_of, meets_at, pixels_of, pixels_at, whole_of, whole_at, point_at, size_at, device_at, in_reach, edge_of, rect_of, rect_at, behind_text, throw_at, limit_at}
use Rattle.trace_text.proofs.Exact.{Exact, ExactAt, ExactLast, as_last, line_end, is_no_feed, some_same, parts, chosen, value_exact, both_exact, as_exact, behind_exact}
use Rattle.trace_text.proofs.Numerals.{number_exact, ratio_exact, RatioFits, ratio_text_of}
use Rattle.trace_text.proofs.Pixels.{pixels_exact}
use Rattle.trace_text.proofs.Signed.{whole_exact}

-- ---- names

letter_field : (b : ℕ) → is_letter b ≡ true → is_field_byte b ≡ true
letter_field b h = grind (arith, nat_tests)

name_byte_field : (b : ℕ) → is_name_byte b ≡ true → is_field_byte b ≡ true
name_byte_field b h = grind (arith, nat_tests)

name_bytes_field : (bs : List ℕ) → list_all is_name_byte bs ≡ true → list_all is_field_byte bs ≡ true
name_bytes_field [] all = refl
name_bytes_field (b ∷ bs) all =
    ap (λ x. x && list_all is_field_byte bs) (name_byte_field b (and_parts (is_name_byte b) (list_all is_name_byte bs) all).0)
    ∙ name_bytes_field bs (and_parts (is_name_byte b) (list_all is_name_byte bs) all).1

pub name_field : (name : List ℕ) → is_name name ≡ true → list_all is_field_byte name ≡ true
name_field [] h = refl
name_field (b ∷ bs) h =
    let all = and_parts (is_letter b && list_all is_name_byte bs) (nat_le (length bs) 31) h in
    let both = and_parts (is_letter b) (list_all is_name_byte bs) all.0 in
    ap (λ x. x && list_all is_field_byte bs) (letter_field b both.0) ∙ name_bytes_field bs both.1

abbrev pub as_name : List ℕ → List ℕ
as_name name = name

name_sound : (field name : List ℕ) → name_of field ≡ Some name → (name ≡ field) × IsName name
name_sound field name h =
    let c : (is_name field ≡ true) × (Some field ≡ Some name) = chosen (is_name field) (Some field) name h in
    let e : field ≡ name = some_same field name c.1 in
    (sym e, ap is_name (sym e) ∙ c.0)

name_complete : (name : List ℕ) → IsName name → name_of name ≡ Some name
name_complete name h = ap (λ b. cond b (Some name) None) h

name_exact : Exact name_of as_name IsName
name_exact = record { sound = name_sound; complete = λ name h. (name_complete name h, name_field name h) }

window_sound : (field name : List ℕ) → window_of field ≡ Some name → (window_text name ≡ field) × IsName name
unfolding window_of
window_sound [] name h = absurd (let no : ⊥ = cc in no)
window_sound (b ∷ bs) name h =
    let c : ((b == 64) ≡ true) × (name_of bs ≡ Some name) = chosen (b == 64) (name_of bs) name h in
    let n : (name ≡ bs) × IsName name = name_sound bs name c.1 in
    (ap (λ x. 64 ∷ x) n.0 ∙ ap (λ x. x ∷ bs) (sym (eqb-true b 64 c.0)), n.1)

window_exact : Exact window_of window_text IsName
unfolding window_of
window_exact = record { sound = window_sound; complete = λ name h. (name_complete name h, name_field name h) }

-- ---- values by their words

pub named_sound : {A : Type 0} (word_of : A → List ℕ) (values : List A) (word : List ℕ) (a : A) → named word_of values word ≡ Some a → word_of a ≡ word
unfolding named
named_sound word_of [] word a h = absurd (let no : ⊥ = cc in no)
named_sound {A} word_of (v ∷ vs) word a h = by_test (named_sound word_of vs word a) (bytes_eq (word_of v) word) refl h where
  by_test : (find (λ value. bytes_eq (word_of value) word) vs ≡ Some a → word_of a ≡ word) → (b : Bool) → bytes_eq (word_of v) word ≡ b
      → cond b (Some v) (find (λ value. bytes_eq (word_of value) word) vs) ≡ Some a → word_of a ≡ word
  by_test later true same found = ap word_of (sym (some_same v a found)) ∙ (bytes_eq-Decides (word_of v) word).0 same
  by_test later false same found = later found

abbrev pub Always : {A : Type 0} → A → Type 0
Always value = Unit {0}

bool_complete : (b : Bool) → Unit {0} → (bool_of (bool_text b) ≡ Some b) × (list_all is_field_byte (bool_text b) ≡ true)
unfolding bool_of named
bool_complete true h = (refl, refl)
bool_complete false h = (refl, refl)

bool_exact : Exact bool_of bool_text Always
unfolding bool_of
bool_exact = record { sound = λ field b h. (named_sound bool_text (true ∷ false ∷ []) field b h, tt); complete = bool_complete }

meets_complete : (b : Bool) → Unit {0} → (meets_of (meets_text b) ≡ Some b) × (list_all is_field_byte (meets_text b) ≡ true)
unfolding meets_of named
meets_complete true h = (refl, refl)
meets_complete false h = (refl, refl)

meets_exact : Exact meets_of meets_text Always
unfolding meets_of
meets_exact = record { sound = λ field b h. (named_sound meets_text (true ∷ false ∷ []) field b h, tt); complete = meets_complete }

event_complete : (kind : EventKind) → Unit {0} → (event_of (event_word kind) ≡ Some kind) × (list_all is_field_byte (event_word kind) ≡ true)
unfolding named
event_complete event.Resize h = (refl, refl)
event_complete event.Scroll h = (refl, refl)
event_complete event.Error h = (refl, refl)
event_complete event.Change h = (refl, refl)

event_exact : Exact event_of event_word Always
event_exact = record { sound = λ field kind h. (named_sound event_word event_kinds field kind h, tt); complete = event_complete }

throw_complete : (kind : ThrowKind) → Unit {0} → (throw_of (throw_word kind) ≡ Some kind) × (list_all is_field_byte (throw_word kind) ≡ true)
unfolding named
throw_complete ReferenceError h = (refl, refl)
throw_complete TypeError h = (refl, refl)
throw_complete HierarchyRequestError h = (refl, refl)
throw_complete NotFoundError h = (refl, refl)
throw_complete SyntaxError h = (refl, refl)
throw_complete RangeError h = (refl, refl)

throw_exact : Exact throw_of throw_word Always
throw_exact = record { sound = λ field kind h. (named_sound throw_word throw_kinds field kind h, tt); complete = throw_complete }

limit_complete : (kind : LimitKind) → Unit {0} → (limit_of (limit_word kind) ≡ Some kind) × (list_all is_field_byte (limit_word kind) ≡ true)
unfolding named
limit_complete Script h = (refl, refl)
limit_complete Line h = (refl, refl)
limit_complete Handlers h = (refl, refl)
limit_complete Nesting h = (refl, refl)
limit_complete Commands h = (refl, refl)
limit_complete Nodes h = (refl, refl)
limit_complete Depth h = (refl, refl)
limit_complete Documents h = (refl, refl)
limit_complete ResizeObservers h = (refl, refl)
limit_complete IntersectionObservers h = (refl, refl)
limit_complete ResizeObservations h = (refl, refl)
limit_complete IntersectionObservations h = (refl, refl)
limit_complete Listeners h = (refl, refl)
limit_complete Timers h = (refl, refl)
limit_complete FrameCallbacks h = (refl, refl)
limit_complete Tasks h = (refl, refl)
limit_complete Queries h = (refl, refl)
limit_complete Recorded h = (refl, refl)
limit_complete Pages h = (refl, refl)

limit_exact : Exact limit_of limit_word Always
limit_exact = record { sound = λ field kind h. (named_sound limit_word limit_kinds field kind h, tt); complete = limit_complete }

-- ---- fields with others behind them

pub names_one : ExactAt name_at (λ name. name ∷ []) IsName
unfolding name_at
names_one = value_exact name_of as_name IsName name_exact

pub names_two : ExactAt names_at (λ p. p.0 ∷ p.1 ∷ []) (λ p. IsName p.0 × IsName p.1)
unfolding names_at
names_two = both_exact name_at name_at (λ name. name ∷ []) (λ name. name ∷ []) IsName IsName names_one names_one

pub windows : ExactAt window_at (λ name. window_text name ∷ []) IsName
unfolding window_at
windows = value_exact window_of window_text IsName window_exact

pub u32s : ExactAt u32_at (λ n. decimal n ∷ []) (λ n. n < 2 ^ 32)
unfolding number_at
u32s = value_exact (number_of (2 ^ 32 - 1)) decimal (λ n. n < 2 ^ 32) (number_exact (2 ^ 32 - 1) (2 ^ 32) refl (omega arith))

pub u64s : ExactAt u64_at (λ n. decimal n ∷ []) (λ n. n < 2 ^ 64)
unfolding number_at
u64s = value_exact (number_of (2 ^ 64 - 1)) decimal (λ n. n < 2 ^ 64) (number_exact (2 ^ 64 - 1) (2 ^ 64) refl (omega arith))

pub ratios : ExactAt ratio_at (λ p. ratio_text_of p ∷ []) RatioFits
unfolding ratio_at
ratios = value_exact ratio_of ratio_text_of RatioFits ratio_exact

pub bools : ExactAt bool_at (λ b. bool_text b ∷ []) Always
unfolding bool_at
bools = value_exact bool_of bool_text Always bool_exact

pub meetings : ExactAt meets_at (λ b. meets_text b ∷ []) Always
unfolding meets_at
meetings = value_exact meets_of meets_text Always meets_exact

pub events : ExactAt (value_at event_of) (λ kind. event_word kind ∷ []) Always
events = value_exact event_of event_word Always event_exact

pub throws : ExactAt throw_at (λ kind. throw_word kind ∷ []) Always
unfolding throw_at
throws = value_exact throw_of throw_word Always throw_exact

pub limits : ExactAt limit_at (λ kind. limit_word kind ∷ []) Always
unfolding limit_at
limits = value_exact limit_of limit_word Always limit_exact

-- ---- lengths, points, sizes and rectangles

lengths : ExactAt pixels_at (λ z. pixel_text z ∷ []) InReach
unfolding pixels_at
lengths = value_exact pixels_of pixel_text InReach pixels_exact

abbrev Pair : Type 0
Pair = ℤ × ℤ

pairs : ExactAt (both pixels_at pixels_at) (λ p. pixel_text p.0 ∷ pixel_text p.1 ∷ []) (λ p. InReach p.0 × InReach p.1)
pairs = both_exact pixels_at pixels_at (λ z. pixel_text z ∷ []) (λ z. pixel_text z ∷ []) InReach InReach lengths lengths

pub points : ExactAt point_at point_fields PointReaches
unfolding point_at point_fields
points =
    as_exact (λ (p : Pair). Some (record { left = p.0; top = p.1 })) (both pixels_at pixels_at) (λ p. pixel_text p.0 ∷ pixel_text p.1 ∷ []) point_fields (λ p. InReach p.0 × InReach p.1) PointReaches pairs
    (λ p point fits h. let e : record { left = p.0; top = p.1 } ≡ point = some_same _ point h in
    let T : Point → Type 0 = λ q. (pixel_text p.0 ∷ pixel_text p.1 ∷ [] ≡ point_fields q) × PointReaches q in
    subst T e (refl, record { left = fits.0; top = fits.1 }))
    (λ point fits. ((point.left, point.top), (fits.left, fits.top), refl, refl))

pub sizes : ExactAt size_at size_fields SizeReaches
unfolding size_at size_fields
sizes =
    as_exact (λ (p : Pair). Some (record { width = p.0; height = p.1 })) (both pixels_at pixels_at) (λ p. pixel_text p.0 ∷ pixel_text p.1 ∷ []) size_fields (λ p. InReach p.0 × InReach p.1) SizeReaches pairs
    (λ p size fits h. let e : record { width = p.0; height = p.1 } ≡ size = some_same _ size h in
    let T : Size → Type 0 = λ q. (pixel_text p.0 ∷ pixel_text p.1 ∷ [] ≡ size_fields q) × SizeReaches q in
    subst T e (refl, record { width = fits.0; height = fits.1 }))
    (λ size fits. ((size.width, size.height), (fits.width, fits.height), refl, refl))

-- ---- sizes in device pixels, told or not

wholes : ExactAt whole_at (λ z. whole_text z ∷ []) InReach
unfolding whole_at
wholes = value_exact whole_of whole_text InReach whole_exact

abbrev told_at : List ℕ → Read Pair
told_at = behind (codes "device") (both whole_at whole_at)

abbrev told_fields : Pair → List (List ℕ)
told_fields p = codes "device" ∷ whole_text p.0 ∷ whole_text p.1 ∷ []

told : ExactAt told_at told_fields (λ p. InReach p.0 × InReach p.1)
told =
    behind_exact (codes "device") (both whole_at whole_at) (λ p. whole_text p.0 ∷ whole_text p.1 ∷ []) (λ p. InReach p.0 × InReach p.1) refl
    (both_exact whole_at whole_at (λ z. whole_text z ∷ []) (λ z. whole_text z ∷ []) InReach InReach wholes wholes)

abbrev size_told : Pair × List ℕ → Option (Option Size × List ℕ)
size_told a = Some (Some (record { width = a.0.0; height = a.0.1 }), a.1)

abbrev DeviceReaches : Option Size → Type 0
DeviceReaches device = IfSome device SizeReaches

-- what was read where fields of a device may stand
abbrev Tells : List ℕ → Option Size × List ℕ → Type 0
Tells t q = (t ≡ before (device_fields q.0) q.1) × DeviceReaches q.0

device_sound : (t : List ℕ) (q : Option Size × List ℕ) → device_at t ≡ Some q → Tells t q
unfolding device_at device_fields
device_sound [] q h = subst (Tells []) (some_same _ q h) (refl, tt)
device_sound (b ∷ bs) q h = by_space (b == 32) h where
  by_space : (v : Bool) → cond v (told_at (b ∷ bs) >>= size_told) (Some (None, b ∷ bs)) ≡ Some q → Tells (b ∷ bs) q
  by_space true read =
      let a = parts (told_at (b ∷ bs)) size_told q read in
      let x = told.sound (b ∷ bs) a.0 a.1 in
      subst (Tells (b ∷ bs)) (some_same _ q a.2) (x.0, record { width = x.1.0; height = x.1.1 })
  by_space false read = subst (Tells (b ∷ bs)) (some_same _ q read) (refl, tt)

device_whole : (device : Option Size) → DeviceReaches device → device_at (line_end (device_fields device)) ≡ Some (device, 10 ∷ [])
unfolding device_at device_fields
device_whole None h = refl
device_whole (Some size) h = ap (λ o. o >>= size_told) ((as_last told).whole (size.width, size.height) (h.width, h.height))

device_clean : (device : Option Size) → DeviceReaches device → list_all is_no_feed (before (device_fields device) []) ≡ true
unfolding device_fields
device_clean None h = refl
device_clean (Some size) h = told.clean (size.width, size.height) (h.width, h.height)

pub devices : ExactLast device_at device_fields DeviceReaches
devices = record { sound = device_sound; whole = device_whole; clean = device_clean }

in_reach_is : (z : ℤ) → in_reach z ≡ true → InReach z
in_reach_is z h =
    let both : (int_le (negsuc 1125899906842623) z ≡ true) × (int_le z (pos 1125899906842624) ≡ true) = and_parts (int_le (negsuc 1125899906842623) z) (int_le z (pos 1125899906842624)) h in
    record { low = grind (arith, ints); high = grind (arith, ints) }

in_reach_again : (z : ℤ) → InReach z → in_reach z ≡ true
in_reach_again z h =
    let low : int_le (negsuc 1125899906842623) z ≡ true = let l = h.low in grind (arith, ints) in
    let high : int_le z (pos 1125899906842624) ≡ true = let l = h.high in grind (arith, ints) in
    ap (λ b. b && int_le z (pos 1125899906842624)) low ∙ high

edge_sound : (start length edge : ℤ) → edge_of start length ≡ Some edge → (start +ℤ length ≡ edge) × InReach edge
unfolding edge_of
edge_sound start length edge h =
    let c : (in_reach (start +ℤ length) ≡ true) × (Some (start +ℤ length) ≡ Some edge) = chosen (in_reach (start +ℤ length)) (Some (start +ℤ length)) edge h in
    let e : start +ℤ length ≡ edge = some_same (start +ℤ length) edge c.1 in
    (e, subst InReach e (in_reach_is (start +ℤ length) c.0))

edge_complete : (start edge : ℤ) → InReach edge → edge_of start (edge -ℤ start) ≡ Some edge
unfolding edge_of
edge_complete start edge h =
    let sum : start +ℤ (edge -ℤ start) ≡ edge = omega (arith, ints) in
    ap (λ z. cond (in_reach z) (Some z) None) sum ∙ ap (λ b. cond b (Some edge) None) (in_reach_again edge h)

abbrev CornerReaches : Point × Size → Type 0
CornerReaches p = PointReaches p.0 × SizeReaches p.1

abbrev corner_fields : Point × Size → List (List ℕ)
corner_fields p = point_fields p.0 ++ size_fields p.1

rect_sound : (p : Point × Size) (r : Rect) → CornerReaches p → rect_of p ≡ Some r → (corner_fields p ≡ rect_fields r) × RectReaches r
unfolding rect_of rect_fields point_fields size_fields
rect_sound p r fits h =
    let a = parts (edge_of p.0.left p.1.width) (λ right. edge_of p.0.top p.1.height >>= λ bottom. Some (record { left = p.0.left; top = p.0.top; right = right; bottom = bottom })) r h in
    let b = parts (edge_of p.0.top p.1.height) (λ bottom. Some (record { left = p.0.left; top = p.0.top; right = a.0; bottom = bottom })) r a.2 in
    let e : record { left = p.0.left; top = p.0.top; right = a.0; bottom = b.0 } ≡ r = some_same _ r b.2 in
    let right = edge_sound p.0.left p.1.width a.0 a.1 in
    let bottom = edge_sound p.0.top p.1.height b.0 b.1 in
    let right_is : p.0.left +ℤ p.1.width ≡ a.0 = right.0 in
    let bottom_is : p.0.top +ℤ p.1.height ≡ b.0 = bottom.0 in
    let width : p.1.width ≡ a.0 -ℤ p.0.left = omega (arith, ints) in
    let height : p.1.height ≡ b.0 -ℤ p.0.top = omega (arith, ints) in
    let T : Rect → Type 0 = λ q. (corner_fields p ≡ rect_fields q) × RectReaches q in
    subst T e (
      ap (λ z. pixel_text p.0.left ∷ pixel_text p.0.top ∷ pixel_text z ∷ pixel_text p.1.height ∷ []) width
          ∙ ap (λ z. pixel_text p.0.left ∷ pixel_text p.0.top ∷ pixel_text (a.0 -ℤ p.0.left) ∷ pixel_text z ∷ []) height,
      record {
        edges = record { left = fits.0.left; top = fits.0.top; right = right.1; bottom = bottom.1 };
        width = subst InReach width fits.1.width;
        height = subst InReach height fits.1.height;
      },
    )

rect_complete : (r : Rect) → RectReaches r → (p : Point × Size) × CornerReaches p × (rect_of p ≡ Some r) × (corner_fields p ≡ rect_fields r)
unfolding rect_of rect_fields point_fields size_fields
rect_complete r fits = (
  (record { left = r.left; top = r.top }, record { width = r.right -ℤ r.left; height = r.bottom -ℤ r.top }),
  (record { left = fits.edges.left; top = fits.edges.top }, record { width = fits.width; height = fits.height }),
  ap (λ o. o >>= λ right. edge_of r.top (r.bottom -ℤ r.top) >>= λ bottom. Some (record { left = r.left; top = r.top; right = right; bottom = bottom })) (edge_complete r.left r.right fits.edges.right)
      ∙ ap (λ o. o >>= λ bottom. Some (record { left = r.left; top = r.top; right = r.right; bottom = bottom })) (edge_complete r.top r.bottom fits.edges.bottom),
  refl,
)

pub rects : ExactAt rect_at rect_fields RectReaches
unfolding rect_at
rects =
    as_exact rect_of (both point_at size_at) corner_fields rect_fields CornerReaches RectReaches
    (both_exact point_at size_at point_fields size_fields PointReaches SizeReaches points sizes) rect_sound rect_complete

-- ---- a text behind which others stand

pub text_sound : (front t rest : List ℕ) → behind_text front t ≡ Some rest → t ≡ front ++ rest
unfolding behind_text
text_sound front t rest h =
    let c : (bytes_eq (take (length front) t) front ≡ true) × (Some (drop (length front) t) ≡ Some rest) = chosen (bytes_eq (take (length front) t) front) (Some (drop (length front) t)) rest h in
    sym (take-append-drop (length front) t) ∙ ap (λ x. x ++ drop (length front) t) ((bytes_eq-Decides (take (length front) t) front).0 c.0)
    ∙ ap (λ x. front ++ x) (some_same _ rest c.1)

pub text_complete : (front rest : List ℕ) → behind_text front (front ++ rest) ≡ Some rest
unfolding behind_text
text_complete front rest =
    ap (λ b. cond b (Some (drop (length front) (front ++ rest))) None) ((bytes_eq-Decides (take (length front) (front ++ rest)) front).1 (take-append_seam front rest))
    ∙ ap Some (drop-append_seam front rest)
