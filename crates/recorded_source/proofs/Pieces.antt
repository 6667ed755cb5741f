-- What each step makes of a source that comes in pieces.
use Rattle.std.proofs.Common.{◌≡◌, ◌∙◌, refl, sym, subst, ap, ℕ, ◌<◌, ◌≤◌, Bool, inl, inr, true, false, cond, List, [], ◌∷◌, ◌++◌, length, take, arith, append_assoc, length-append}
use Rattle.std.proofs.lemmas.Bool.{cases_lt, false_from_ne_true}
use Rattle.std.proofs.lemmas.List.{append-nil, length-take-le, take-append-le, take-take, take_all}
use Rattle.std.specs.Prelude.{Result, Ok, Err, OnOk, ◌||◌, ◌==◌, bytes_eq, codes, not}
use Rattle.text_lines.specs.Lines.{first_line, behind_line}
use Rattle.text_lines.proofs.Splits.{line_splits}
use Rattle.trace_judge.specs.Recordings.{is_divider, script_of, trace_of}
use Rattle.trace_judge.proofs.Divided.{script_ends, trace_begins, script_goes, trace_waits, script_none, trace_none}
use Rattle.trace_judge.proofs.Judged.{lines_agree}
use Rattle.trace_judge.proofs.Splits.{no_byte}
use Rattle.recorded_source.specs.Recorded.{Divided, Divides, has_feed, opened, script_at, trace_at}
use Rattle.recorded_source.specs.declared.recorded.Place.{Place}
use Rattle.recorded_source.specs.declared.recorded.Place.TheVariants.{Line, WithinLine, Trace}

-- where a call went well, more is known
pub on_ok : {A E P Q : Type 0} (r : Result A E) → OnOk r P → (P → Q) → OnOk r Q
on_ok (Ok x) p more = more p
on_ok (Err e) p more = tt

never : {A : Type 0} → false ≡ true → A
never wrong = absurd (let no : ⊥ = cc in no)

-- a line with bytes behind it, where it has its line feed and where it hasn't

closed-at : (feed : Bool) (b : ℕ) (bs others : List ℕ) → (feed || has_feed bs) ≡ true
    → (has_feed bs ≡ true → (first_line (bs ++ others) ≡ first_line bs) × (behind_line (bs ++ others) ≡ behind_line bs ++ others))
    → (cond feed (b ∷ []) (b ∷ first_line (bs ++ others)) ≡ cond feed (b ∷ []) (b ∷ first_line bs))
    × (cond feed (bs ++ others) (behind_line (bs ++ others)) ≡ cond feed bs (behind_line bs) ++ others)
closed-at true b bs others fed later = (refl, refl)
closed-at false b bs others fed later = (ap (λ line. b ∷ line) (later fed).0, (later fed).1)

closed : (line others : List ℕ) → has_feed line ≡ true → (first_line (line ++ others) ≡ first_line line) × (behind_line (line ++ others) ≡ behind_line line ++ others)
unfolding first_line behind_line
closed [] others fed = never fed
closed (b ∷ bs) others fed = closed-at (b == 10) b bs others fed (closed bs others)

open-at : (feed : Bool) (b : ℕ) (bs others : List ℕ) → (feed || has_feed bs) ≡ false
    → (has_feed bs ≡ false → (first_line (bs ++ others) ≡ bs ++ first_line others) × (behind_line (bs ++ others) ≡ behind_line others))
    → (cond feed (b ∷ []) (b ∷ first_line (bs ++ others)) ≡ b ∷ (bs ++ first_line others)) × (cond feed (bs ++ others) (behind_line (bs ++ others)) ≡ behind_line others)
open-at true b bs others unfed later = never (sym unfed)
open-at false b bs others unfed later = (ap (λ line. b ∷ line) (later unfed).0, (later unfed).1)

goes_on : (line others : List ℕ) → has_feed line ≡ false → (first_line (line ++ others) ≡ line ++ first_line others) × (behind_line (line ++ others) ≡ behind_line others)
unfolding first_line behind_line
goes_on [] others unfed = (refl, refl)
goes_on (b ∷ bs) others unfed = open-at (b == 10) b bs others unfed (goes_on bs others)

nothing-behind : (line : List ℕ) → first_line line ≡ line → behind_line line ≡ []
nothing-behind line whole =
    let all = ap length (line_splits line) in
    let both = length-append (first_line line) (behind_line line) in
    no_byte (behind_line line) (omega (arith, all, both, ap length whole))

ends : (line others : List ℕ) → first_line line ≡ line → has_feed line ≡ true → (first_line (line ++ others) ≡ line) × (behind_line (line ++ others) ≡ others)
ends line others whole fed = ((closed line others fed).0 ∙ whole, (closed line others fed).1 ∙ ap (λ bytes. bytes ++ others) (nothing-behind line whole))

some : (line others : List ℕ) → has_feed line ≡ true → 0 < length (line ++ others)
some [] others fed = never fed
some (b ∷ bs) others fed = omega arith

-- a line of more than seven bytes divides nothing

other-than : (line : List ℕ) (divider : List ℕ) → length divider < length line → bytes_eq line divider ≡ false
other-than line divider long =
    false_from_ne_true (bytes_eq line divider) (λ same. let is : line ≡ divider = lines_agree line divider (sym (ap not same)) in absurd (omega (arith, long, ap length is)))

pub long_line : (line : List ℕ) → 7 < length line → is_divider line ≡ false
long_line line long =
    let bare = other-than line (codes "trace") (omega (arith, long)) in
    let fed = other-than line (codes "trace" ++ (10 ∷ [])) (omega (arith, long)) in
    let returned = other-than line (codes "trace" ++ (13 ∷ 10 ∷ [])) (omega (arith, long)) in
    ap (λ one. one || (bytes_eq line (codes "trace" ++ (10 ∷ [])) || (bytes_eq line (codes "trace" ++ (13 ∷ 10 ∷ [])) || false))) bare
    ∙ ap (λ one. one || (bytes_eq line (codes "trace" ++ (13 ∷ 10 ∷ [])) || false)) fed
    ∙ ap (λ one. one || false) returned

-- what is given to the script, and to the trace

more_looked_at : (limit : ℕ) (bytes more : List ℕ) → take limit (take limit bytes ++ more) ≡ take limit (bytes ++ more)
more_looked_at limit bytes more = elim (cases_lt limit (length bytes)) [
  | inl long ↦
      let full : length (take limit bytes) ≡ limit = length-take-le limit bytes (omega (arith, long)) in
      take-append-le limit (take limit bytes) more (omega (arith, full)) ∙ take-take limit limit bytes (omega arith)
      ∙ sym (take-append-le limit bytes more (omega (arith, long)))
  | inr short ↦ ap (λ bytes. take limit (bytes ++ more)) (take_all limit bytes short)
]

module _ (bytes : List ℕ) (it : Divided) (here : Divides bytes it) where
  given : (place : Place) → ((others : List ℕ) → script_at it.place (it.begun ++ others) ≡ it.begun ++ script_at place others)
      → ((others : List ℕ) → trace_at it.place (it.begun ++ others) ≡ trace_at place others)
      → Divides bytes (record { script = take 16777217 (it.script ++ it.begun); begun = []; place = place; trace = it.trace })
  given place script trace = record {
    script_bytes = here.script_bytes ++ it.begun;
    looked_at = ap (λ fed. take 16777217 (fed ++ it.begun)) here.looked_at ∙ more_looked_at 16777217 here.script_bytes it.begun;
    script = λ others. here.script others ∙ ap (λ t. here.script_bytes ++ t) (script others) ∙ sym (append_assoc here.script_bytes it.begun (script_at place others));
    trace = λ others. here.trace others ∙ ap (λ t. it.trace ++ t) (trace others);
  }

  -- within a line of the script
  pub within_goes_on : it.place ≡ WithinLine → has_feed it.begun ≡ false → Divides bytes (record { script = take 16777217 (it.script ++ it.begun); begun = []; place = WithinLine; trace = it.trace })
  within_goes_on is unfed = given WithinLine
      (λ others. let go = goes_on it.begun others unfed in
      ap (λ place. script_at place (it.begun ++ others)) is
      ∙ ap (λ line. line ++ script_of (behind_line (it.begun ++ others))) go.0
      ∙ ap (λ rest. (it.begun ++ first_line others) ++ script_of rest) go.1
      ∙ append_assoc it.begun (first_line others) (script_of (behind_line others)))
      (λ others. ap (λ place. trace_at place (it.begun ++ others)) is ∙ ap trace_of (goes_on it.begun others unfed).1)

  pub within_ends : it.place ≡ WithinLine → first_line it.begun ≡ it.begun → has_feed it.begun ≡ true → Divides bytes (record { script = take 16777217 (it.script ++ it.begun); begun = []; place = Line; trace = it.trace })
  within_ends is whole fed = given Line
      (λ others. let end = ends it.begun others whole fed in
      ap (λ place. script_at place (it.begun ++ others)) is
      ∙ ap (λ line. line ++ script_of (behind_line (it.begun ++ others))) end.0
      ∙ ap (λ rest. it.begun ++ script_of rest) end.1)
      (λ others. ap (λ place. trace_at place (it.begun ++ others)) is ∙ ap trace_of (ends it.begun others whole fed).1)

  -- in a line that isn't the line `trace`
  pub line_ends : it.place ≡ Line → first_line it.begun ≡ it.begun → has_feed it.begun ≡ true → is_divider it.begun ≡ false
      → Divides bytes (record { script = take 16777217 (it.script ++ it.begun); begun = []; place = Line; trace = it.trace })
  line_ends is whole fed other = given Line
      (λ others. let end = ends it.begun others whole fed in
      ap (λ place. script_at place (it.begun ++ others)) is
      ∙ script_goes (it.begun ++ others) (some it.begun others fed) (ap is_divider end.0 ∙ other)
      ∙ ap (λ line. line ++ script_of (behind_line (it.begun ++ others))) end.0
      ∙ ap (λ rest. it.begun ++ script_of rest) end.1)
      (λ others. let end = ends it.begun others whole fed in
      ap (λ place. trace_at place (it.begun ++ others)) is
      ∙ trace_waits (it.begun ++ others) (some it.begun others fed) (ap is_divider end.0 ∙ other)
      ∙ ap trace_of end.1)

  pub line_is_long : it.place ≡ Line → has_feed it.begun ≡ false → 7 < length it.begun
      → Divides bytes (record { script = take 16777217 (it.script ++ it.begun); begun = []; place = WithinLine; trace = it.trace })
  line_is_long is unfed long =
      let other : (others : List ℕ) → is_divider (first_line (it.begun ++ others)) ≡ false =
      λ others. ap is_divider (goes_on it.begun others unfed).0 ∙ long_line (it.begun ++ first_line others) (omega (arith, long, length-append it.begun (first_line others))) in
      let some-there : (others : List ℕ) → 0 < length (it.begun ++ others) = λ others. omega (arith, long, length-append it.begun others) in
      given WithinLine
      (λ others. let go = goes_on it.begun others unfed in
      ap (λ place. script_at place (it.begun ++ others)) is
      ∙ script_goes (it.begun ++ others) (some-there others) (other others)
      ∙ ap (λ line. line ++ script_of (behind_line (it.begun ++ others))) go.0
      ∙ ap (λ rest. (it.begun ++ first_line others) ++ script_of rest) go.1
      ∙ append_assoc it.begun (first_line others) (script_of (behind_line others)))
      (λ others.
      ap (λ place. trace_at place (it.begun ++ others)) is
      ∙ trace_waits (it.begun ++ others) (some-there others) (other others)
      ∙ ap trace_of (goes_on it.begun others unfed).1)

  -- at the line `trace`, and behind it
  pub trace_is_begun : it.place ≡ Line → first_line it.begun ≡ it.begun → has_feed it.begun ≡ true → is_divider it.begun ≡ true
      → Divides bytes (record { script = it.script; begun = []; place = Trace; trace = it.trace })
  trace_is_begun is whole fed divider = record {
    script_bytes = here.script_bytes;
    looked_at = here.looked_at;
    script = λ others. let end = ends it.begun others whole fed in
        here.script others
        ∙ ap (λ place. here.script_bytes ++ script_at place (it.begun ++ others)) is
        ∙ ap (λ t. here.script_bytes ++ t) (script_ends (it.begun ++ others) (some it.begun others fed) (ap is_divider end.0 ∙ divider));
    trace = λ others. let end = ends it.begun others whole fed in
        here.trace others
        ∙ ap (λ place. it.trace ++ trace_at place (it.begun ++ others)) is
        ∙ ap (λ t. it.trace ++ t) (trace_begins (it.begun ++ others) (some it.begun others fed) (ap is_divider end.0 ∙ divider) ∙ end.1);
  }

  pub trace_goes_on : it.place ≡ Trace → Divides bytes (record { script = it.script; begun = []; place = it.place; trace = it.trace ++ it.begun })
  trace_goes_on is = record {
    script_bytes = here.script_bytes;
    looked_at = here.looked_at;
    script = λ others. here.script others
        ∙ ap (λ place. here.script_bytes ++ script_at place (it.begun ++ others)) is
        ∙ ap (λ place. here.script_bytes ++ script_at place others) (sym is);
    trace = λ others. here.trace others
        ∙ ap (λ place. it.trace ++ trace_at place (it.begun ++ others)) is
        ∙ sym (append_assoc it.trace it.begun others)
        ∙ ap (λ place. (it.trace ++ it.begun) ++ trace_at place others) (sym is);
  }

  -- a further part of a line is held
  pub part_held : (part : List ℕ) → Divides (bytes ++ part) (record { script = it.script; begun = it.begun ++ part; place = it.place; trace = it.trace })
  part_held part = record {
    script_bytes = here.script_bytes;
    looked_at = here.looked_at;
    script = λ others. ap script_of (append_assoc bytes part others) ∙ here.script (part ++ others)
        ∙ ap (λ t. here.script_bytes ++ script_at it.place t) (sym (append_assoc it.begun part others));
    trace = λ others. ap trace_of (append_assoc bytes part others) ∙ here.trace (part ++ others)
        ∙ ap (λ t. it.trace ++ trace_at it.place t) (sym (append_assoc it.begun part others));
  }

-- ---- where nothing further comes

-- a line without a line feed is the only one of a text
alone : (line : List ℕ) → has_feed line ≡ false → (first_line line ≡ line) × (behind_line line ≡ [])
unfolding first_line behind_line
alone line unfed = let go = goes_on line [] unfed in
    (sym (ap first_line (append-nil line)) ∙ go.0 ∙ append-nil line, sym (ap behind_line (append-nil line)) ∙ go.1)

-- the only line of a text that isn't the line `trace`
one-line : (line : List ℕ) → has_feed line ≡ false → is_divider line ≡ false → (script_of line ≡ line) × (trace_of line ≡ [])
one-line [] unfed other = (script_none, trace_none)
one-line (b ∷ bs) unfed other =
    let one = alone (b ∷ bs) unfed in
    let not_first = ap is_divider one.0 ∙ other in (
      script_goes (b ∷ bs) (omega arith) not_first ∙ ap (λ first. first ++ script_of (behind_line (b ∷ bs))) one.0
          ∙ ap (λ rest. (b ∷ bs) ++ script_of rest) one.1 ∙ ap (λ t. (b ∷ bs) ++ t) script_none ∙ append-nil (b ∷ bs),
      trace_waits (b ∷ bs) (omega arith) not_first ∙ ap trace_of one.1 ∙ trace_none,
    )

divider-some : (line : List ℕ) → is_divider line ≡ true → 0 < length line
divider-some [] divider = never divider
divider-some (b ∷ bs) divider = omega arith

module _ (bytes : List ℕ) (it : Divided) (here : Divides bytes it) where
  whole-script : script_of bytes ≡ here.script_bytes ++ script_at it.place it.begun
  whole-script = sym (ap script_of (append-nil bytes)) ∙ here.script [] ∙ ap (λ t. here.script_bytes ++ script_at it.place t) (append-nil it.begun)

  whole-trace : trace_of bytes ≡ it.trace ++ trace_at it.place it.begun
  whole-trace = sym (ap trace_of (append-nil bytes)) ∙ here.trace [] ∙ ap (λ t. it.trace ++ trace_at it.place t) (append-nil it.begun)

  -- what is held is of the script
  with-script : script_at it.place it.begun ≡ it.begun → trace_at it.place it.begun ≡ []
      → (take 16777217 (it.script ++ it.begun) ≡ take 16777217 (script_of bytes)) × (it.trace ≡ trace_of bytes)
  with-script script trace = (
    ap (λ fed. take 16777217 (fed ++ it.begun)) here.looked_at ∙ more_looked_at 16777217 here.script_bytes it.begun
        ∙ ap (take 16777217) (sym (whole-script ∙ ap (λ t. here.script_bytes ++ t) script)),
    sym (whole-trace ∙ ap (λ t. it.trace ++ t) trace ∙ append-nil it.trace),
  )

  pub ends_within : it.place ≡ WithinLine → has_feed it.begun ≡ false → (take 16777217 (it.script ++ it.begun) ≡ take 16777217 (script_of bytes)) × (it.trace ≡ trace_of bytes)
  ends_within is unfed = with-script
      (ap (λ place. script_at place it.begun) is ∙ ap (λ line. line ++ script_of (behind_line it.begun)) (alone it.begun unfed).0
      ∙ ap (λ rest. it.begun ++ script_of rest) (alone it.begun unfed).1 ∙ ap (λ t. it.begun ++ t) script_none ∙ append-nil it.begun)
      (ap (λ place. trace_at place it.begun) is ∙ ap trace_of (alone it.begun unfed).1 ∙ trace_none)

  pub ends_in_line : it.place ≡ Line → has_feed it.begun ≡ false → is_divider it.begun ≡ false → (take 16777217 (it.script ++ it.begun) ≡ take 16777217 (script_of bytes)) × (it.trace ≡ trace_of bytes)
  ends_in_line is unfed other = with-script
      (ap (λ place. script_at place it.begun) is ∙ (one-line it.begun unfed other).0)
      (ap (λ place. trace_at place it.begun) is ∙ (one-line it.begun unfed other).1)

  pub ends_at_divider : it.place ≡ Line → has_feed it.begun ≡ false → is_divider it.begun ≡ true → (it.script ≡ take 16777217 (script_of bytes)) × (it.trace ≡ trace_of bytes)
  ends_at_divider is unfed divider =
      let one = alone it.begun unfed in
      let there = divider-some it.begun divider in (
        here.looked_at ∙ ap (take 16777217) (sym (whole-script ∙ ap (λ place. here.script_bytes ++ script_at place it.begun) is
            ∙ ap (λ t. here.script_bytes ++ t) (script_ends it.begun there (ap is_divider one.0 ∙ divider)) ∙ append-nil here.script_bytes)),
        sym (whole-trace ∙ ap (λ place. it.trace ++ trace_at place it.begun) is
            ∙ ap (λ t. it.trace ++ t) (trace_begins it.begun there (ap is_divider one.0 ∙ divider) ∙ one.1) ∙ append-nil it.trace),
      )

  pub ends_in_trace : it.place ≡ Trace → (it.script ≡ take 16777217 (script_of bytes)) × (it.trace ++ it.begun ≡ trace_of bytes)
  ends_in_trace is = (
    here.looked_at ∙ ap (take 16777217) (sym (whole-script ∙ ap (λ place. here.script_bytes ++ script_at place it.begun) is ∙ append-nil here.script_bytes)),
    sym (whole-trace ∙ ap (λ place. it.trace ++ trace_at place it.begun) is),
  )

pub nothing_divided : Divides [] opened
nothing_divided = record { script_bytes = []; looked_at = refl; script = λ others. refl; trace = λ others. refl }

-- ---- a piece, line by line

-- so much of a piece was taken
pub record FedTo (old new : Divided) (piece rest : List ℕ) : Type 0 where
  pub front : List ℕ
  pub makes : front ++ rest ≡ piece
  pub divides : (bytes : List ℕ) → Divides bytes old → Divides (bytes ++ front) new
  pub held : has_feed new.begun ≡ false

pub fed_none : (it : Divided) (piece : List ℕ) → has_feed it.begun ≡ false → FedTo it it piece piece
fed_none it piece unfed = record { front = []; makes = refl; divides = λ bytes here. subst (λ (all : List ℕ). Divides all it) (sym (append-nil bytes)) here; held = unfed }

pub fed_more : {old now new : Divided} {piece rest : List ℕ} (part left : List ℕ) → FedTo old now piece rest → part ≡ first_line rest → left ≡ behind_line rest
    → ((bytes : List ℕ) → Divides bytes now → Divides (bytes ++ part) new) → has_feed new.begun ≡ false → FedTo old new piece left
fed_more {old} {now} {new} {piece} {rest} part left here first behind divides unfed = record {
  front = here.front ++ part;
  makes = append_assoc here.front part left ∙ ap (λ l. here.front ++ (l ++ left)) first ∙ ap (λ b. here.front ++ (first_line rest ++ b)) behind ∙ ap (λ t. here.front ++ t) (line_splits rest) ∙ here.makes;
  divides = λ bytes start. subst (λ (all : List ℕ). Divides all new) (append_assoc bytes here.front part) (divides (bytes ++ here.front) (here.divides bytes start));
  held = unfed;
}

pub fed_all : {old new : Divided} {piece rest : List ℕ} → FedTo old new piece rest → length rest ≤ 0 → (bytes : List ℕ) → Divides bytes old → Divides (bytes ++ piece) new
fed_all {old} {new} {piece} {rest} here none bytes start =
    let whole : here.front ≡ piece = sym (append-nil here.front) ∙ ap (λ t. here.front ++ t) (sym (no_byte rest none)) ∙ here.makes in
    subst (λ (fed : List ℕ). Divides (bytes ++ fed) new) whole (here.divides bytes start)

-- the rest of a piece at once
pub fed_last : {old now new : Divided} {piece rest : List ℕ} (here : FedTo old now piece rest) (bytes : List ℕ) → Divides ((bytes ++ here.front) ++ rest) new → Divides (bytes ++ piece) new
fed_last {old} {now} {new} {piece} {rest} here bytes all =
    subst (λ (fed : List ℕ). Divides fed new) (append_assoc bytes here.front rest ∙ ap (λ t. bytes ++ t) here.makes) all

-- the first line of a text has no other
pub line_alone : (text : List ℕ) → first_line (first_line text) ≡ first_line text
unfolding first_line
line_alone [] = refl
line_alone (b ∷ bs) = by-feed (b == 10) refl (line_alone bs)
  where
    by-feed : (feed : Bool) → (b == 10) ≡ feed → first_line (first_line bs) ≡ first_line bs → first_line (cond feed (b ∷ []) (b ∷ first_line bs)) ≡ cond feed (b ∷ []) (b ∷ first_line bs)
    by-feed true is later = ap (λ feed. cond feed (b ∷ []) (b ∷ [])) is
    by-feed false is later = ap (λ feed. cond feed (b ∷ []) (b ∷ first_line (first_line bs))) is ∙ ap (λ line. b ∷ line) later

-- what was held goes on with a part of a line
pub joined : (line part : List ℕ) → has_feed line ≡ false → first_line part ≡ part → first_line (line ++ part) ≡ line ++ part
joined line part unfed alone = (goes_on line part unfed).0 ∙ ap (λ t. line ++ t) alone
