-- The turn of a page at one of its lines.
use Rattle.std.proofs.Common.{◌≡◌, ◌∙◌, refl, sym, ap, subst, ℕ, zero, suc, ◌+◌, ◌<◌, true, false, cond, List, [], ◌∷◌, length, map, drop, get_or, Option, arith}
use Rattle.std.specs.Prelude.{Some, None, slice_get, Bool, not, ◌&&◌}
use Rattle.std.proofs.lemmas.Bool.{false≢true}
use Rattle.std.proofs.lemmas.List.Elements.{All-nil}
use Rattle.text_io.specs.declared.kinds.LimitKind.{LimitKind}
use Rattle.script_model.specs.Syntax.{Item}
use Rattle.script_model.specs.Scripts.{handlers_in}
use Rattle.script_model.specs.TraceLines.{TraceLine, LimitLine}
use Rattle.script_syntax.specs.Seen.{item_of}
use Rattle.script_syntax.specs.declared.commands.Item as written
use Rattle.page_model.specs.World.{World}
use Rattle.page_model.specs.Outcome as outcomes
use Rattle.page_model.specs.Outcome.{bytes_of, run_item}
use Rattle.page_model.specs.Runs as runs
use Rattle.page_model.specs.Runs.{Said}
use Rattle.trace_text.specs.Ranges.{IsLine}
use Rattle.trace_runs.specs.Runs as Run
use Rattle.trace_runs.specs.Writes.{Says}
use Rattle.trace_summary.specs.Counts.{IsTrace}
use Rattle.stream_runs.specs.PageRuns.{Standing as PageStanding, Going, Over, Turn, passed, stands_by, went_on, turn_at}
use Rattle.stream_replay.specs.StreamPages.{seen_standing, item_begins}
use Rattle.stream_replay.specs.declared.stream_page.Running.{Running}
use Rattle.stream_replay.specs.declared.stream_page.Standing.{Standing}
use Rattle.stream_replay.specs.declared.stream_page.Standing.TheVariants as standing
use Rattle.stream_replay.specs.declared.stream_page.Refusal.TheVariants as refusal
use Rattle.run_replies.proofs.Summaries.{gathered_trace, gathered_more}

never : {A : Type 0} → false ≡ true → A
never wrong = absurd (false≢true wrong)

-- what is left from the next item on
drop_at : {A : Type 0} (xs : List A) (k : ℕ) (x : A) → slice_get xs k ≡ Some x → drop k xs ≡ x ∷ drop (k + 1) xs
drop_at [] k x is = absurd (let none : None ≡ Some x = is in cc)
drop_at (y ∷ ys) zero x is = let same : y ≡ x = cc in ap (λ it. it ∷ ys) same
drop_at (y ∷ ys) (suc k) x is = let next : suc (k + 1) ≡ suc k + 1 = omega arith in drop_at ys k x is ∙ ap (λ n. x ∷ drop n (y ∷ ys)) next

drop_none : {A : Type 0} (xs : List A) (k : ℕ) → slice_get xs k ≡ None → drop k xs ≡ []
drop_none [] zero is = refl
drop_none [] (suc k) is = refl
drop_none (y ∷ ys) zero is = absurd (let some : Some y ≡ None = is in cc)
drop_none (y ∷ ys) (suc k) is = drop_none ys k is

pub item_there : (items : List written.Item) (script : List Item) (k : ℕ) (item d : written.Item) → map item_of items ≡ script → k < length items → item ≡ get_or items k d → slice_get script k ≡ Some (item_of item)
item_there items script k item d is inside at = ap (λ it. slice_get it k) (sym is) ∙ there items k d inside ∙ ap (λ it. Some (item_of it)) (sym at)
  where
    there : (items : List written.Item) (k : ℕ) (d : written.Item) → k < length items → slice_get (map item_of items) k ≡ Some (item_of (get_or items k d))
    there [] k d inside = absurd (omega arith)
    there (i ∷ is) zero d inside = refl
    there (i ∷ is) (suc k) d inside = there is k d (omega arith)

-- ---- the next item is run

module _ (line : ℕ) (script : List Item) (k : ℕ) (world : World) where
  abbrev turn : Turn
  turn = turn_at line (Going (handlers_in script) (drop k script) world)

  -- at its line
  begun : (item : Item) → item_begins line (slice_get script k) ≡ true → slice_get script k ≡ Some item
      → turn ≡ went_on (handlers_in script) (drop (k + 1) script) (run_item (handlers_in script) item world)
  unfolding turn_at
  begun item is at =
      ap (λ left. turn_at line (Going (handlers_in script) left world)) (drop_at script k item at)
      ∙ ap (λ test. cond test (went_on (handlers_in script) (drop (k + 1) script) (run_item (handlers_in script) item world)) (passed (Going (handlers_in script) (item ∷ drop (k + 1) script) world)))
      (ap (λ it. item_begins line it) (sym at) ∙ is)

  -- and at no other
  pub turn_passed : item_begins line (slice_get script k) ≡ false → turn ≡ passed (Going (handlers_in script) (drop k script) world)
  unfolding turn_at
  turn_passed is = by_item (slice_get script k) refl
    where
      by_item : (at : Option Item) → slice_get script k ≡ at → turn ≡ passed (Going (handlers_in script) (drop k script) world)
      by_item None at =
          ap (λ left. turn_at line (Going (handlers_in script) left world)) (drop_none script k at)
          ∙ ap (λ left. passed (Going (handlers_in script) left world)) (sym (drop_none script k at))
      by_item (Some item) at =
          ap (λ left. turn_at line (Going (handlers_in script) left world)) (drop_at script k item at)
          ∙ ap (λ test. cond test (went_on (handlers_in script) (drop (k + 1) script) (run_item (handlers_in script) item world)) (passed (Going (handlers_in script) (item ∷ drop (k + 1) script) world)))
          (ap (λ it. item_begins line it) (sym at) ∙ is)
          ∙ ap (λ left. passed (Going (handlers_in script) left world)) (sym (drop_at script k item at))

  -- what it says
  module _ (item : Item) (is : item_begins line (slice_get script k) ≡ true) (at : slice_get script k ≡ Some item) where
    abbrev said : Said World
    said = run_item (handlers_in script) item world

    pub ended_lines : {new : World} (gathered taken : List ℕ) (f g : ℕ) → gathered ≡ [] → Run.Ended runs.Next new (Some gathered) (Some taken) f g said → IsTrace taken turn.lines
    ended_lines gathered taken f g none ended =
        subst (λ (t : Turn). IsTrace taken t.lines) (sym (begun item is at)) (gathered_trace gathered taken (said.lines) none ended.written)

    pub ended_standing : {new : World} {b a : Option (List ℕ)} {f g : ℕ} → Run.Ended runs.Next new b a f g said → Going (handlers_in script) (drop (k + 1) script) new ≡ turn.standing
    ended_standing {new} ended =
        ap (λ w. Going (handlers_in script) (drop (k + 1) script) w) (sym ended.state_is)
        ∙ ap (λ flow. stands_by flow (handlers_in script) (drop (k + 1) script) (said.state)) (sym ended.flow_is)
        ∙ ap (λ (t : Turn). t.standing) (sym (begun item is at))

    pub limit_lines : {new : World} (kind : LimitKind) (number most : ℕ) (gathered taken all : List ℕ) (f g : ℕ) → gathered ≡ [] → Run.MeetsLimit kind number most new (Some gathered) (Some taken) f g said
        → Says (Some taken) (Some all) (LimitLine kind number most ∷ []) → IsTrace all turn.lines
    limit_lines kind number most gathered taken all f g none met last =
        subst (λ (t : Turn). IsTrace all t.lines) (sym (begun item is at))
        (subst (λ (lines : List TraceLine). IsTrace all lines) (sym met.last)
        (gathered_more taken all met.lines (LimitLine kind number most ∷ []) (gathered_trace gathered taken met.lines none met.written) last))

    pub limit_standing : {kind : LimitKind} {number most : ℕ} {new : World} {b a : Option (List ℕ)} {f g : ℕ} → Run.MeetsLimit kind number most new b a f g said → Over outcomes.LimitMet ≡ turn.standing
    limit_standing met =
        ap (λ flow. stands_by flow (handlers_in script) (drop (k + 1) script) (said.state)) (sym met.flow_is)
        ∙ ap (λ (t : Turn). t.standing) (sym (begun item is at))

-- a page whose script was refused
pub turn_over : (line : ℕ) (it : Standing) → ((running : Running) → it ≡ standing.Opened running → ⊥) → turn_at line (seen_standing it) ≡ passed (seen_standing it)
unfolding turn_at
turn_over line (standing.Opened running) none = absurd (none running refl)
turn_over line (standing.Refused refusal.Faulty) none = refl
turn_over line (standing.Refused refusal.LimitMet) none = refl

-- a page that isn't run at a line: it was stopped, or its next item begins on another
pub turn_idle : (stopped : Bool) (line : ℕ) (script : List Item) (k : ℕ) (world : World) → not stopped && item_begins line (slice_get script k) ≡ false
    → turn_at line (cond stopped (Over outcomes.LimitMet) (Going (handlers_in script) (drop k script) world))
    ≡ passed (cond stopped (Over outcomes.LimitMet) (Going (handlers_in script) (drop k script) world))
unfolding turn_at
turn_idle true line script k world is = refl
turn_idle false line script k world is = turn_passed line script k world is

-- a page that is run at a line wasn't stopped, and its next item is there
pub goes_on : (stopped begun : Bool) → not stopped && begun ≡ true → stopped ≡ false
goes_on true begun is = absurd (false≢true is)
goes_on false begun is = refl

pub begun_too : (stopped begun : Bool) → not stopped && begun ≡ true → begun ≡ true
begun_too true begun is = absurd (false≢true is)
begun_too false begun is = is

-- nothing is said then
pub nothing_said : (taken : List ℕ) (turn : Turn) (standing : PageStanding) → taken ≡ [] → turn ≡ passed standing → IsTrace taken turn.lines
unfolding bytes_of
nothing_said taken it standing none is =
    subst (λ (t : Turn). IsTrace taken t.lines) (sym is) (record { fit = All-nil IsLine; makes = sym none })

-- where an item begins there is one
pub begins_inside : (line : ℕ) (items : List written.Item) (script : List Item) (k : ℕ) → map item_of items ≡ script → item_begins line (slice_get script k) ≡ true → k < length items
begins_inside line items script k same is = inside items k (ap (λ (it : List Item). item_begins line (slice_get it k)) same ∙ is)
  where
    inside : (items : List written.Item) (k : ℕ) → item_begins line (slice_get (map item_of items) k) ≡ true → k < length items
    inside [] k is = never is
    inside (i ∷ is) zero at = omega arith
    inside (i ∷ is) (suc k) at = let later = inside is k at in omega arith
