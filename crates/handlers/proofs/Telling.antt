-- Lines of entries that are told, and a queue that was taken.
use Rattle.std.proofs.Common.{◌≡◌, ℕ, zero, suc, ◌<◌, List, [], ◌∷◌, length, get_or, Option, map, sym, ap, subst, ◌∙◌, arith}
use Rattle.std.proofs.lemmas.List.{length-map}
use Rattle.std.specs.Prelude.{Result, Ok, Err}
use Rattle.std.specs.List.{AllByRecursion}
use Rattle.script_model.specs.TraceLines.{TraceLine, TakeLine}
use Rattle.intersection_observer.specs.Seen.{seen_entries, seen_entry}
use Rattle.intersection_observer.specs.declared.entry.Entry.{Entry as CutEntry}
use Rattle.intersection_observer.specs.declared.root.WatcherId.{WatcherId}
use Rattle.intersection_update.specs.Watching.{AreWritten, IsWritten}
use Rattle.page_model.specs.Callbacks.{CutEntries}
use Rattle.page_model.specs.EntryLines.{intersection_line, intersection_lines}
use Rattle.page_model.specs.Operands.{IntersectionEntry}
use Rattle.page_model.specs.Runs.{say}
use Rattle.page_model.specs.World.{Entry, Name, World}
use Rattle.trace_text.specs.Ranges.{HasReach}
use Rattle.trace_runs.specs.declared.faults.RunFault.{RunFault}
use Rattle.trace_runs.specs.Writes.{Says, Told}
use Rattle.trace_runs.proofs.Following.{cut_saying, say_more}
use Rattle.trace_runs.proofs.Lines.{says_none}
use Rattle.trace_runs.proofs.Runs.{behind_run, run_same, say_run, wrote_run}
use Rattle.page_state.specs.Answers.{lines_of}
use Rattle.page_state.specs.declared.answers.Effect.{Effect}
use Rattle.page_state.specs.declared.answers.Effect.TheVariants as effect
use Rattle.handlers.specs.Entries.{entries_of, AreHanded, AreIn}
use Rattle.handlers.specs.declared.entries.Entries.{Entries}
use Rattle.handlers.specs.declared.entries.Entries.TheVariants.{Intersection}
use Rattle.handlers.proofs.Places.{map_both}

-- the lines of an intersection observer's entries, from the list of them
pub cut_lines : (names : List Name) (observer : ℕ) (list : List CutEntry)
    → intersection_lines names observer (seen_entries list) ≡ map (λ entry. intersection_line names observer (seen_entry entry)) list
unfolding intersection_lines
cut_lines names observer list = map_both (intersection_line names observer) seen_entry list

pub written_at : (elements : ℕ) (list : List CutEntry) (i : ℕ) (entry : CutEntry) → AreWritten elements (seen_entries list) → i < length list → entry ≡ get_or list i entry
    → IsWritten elements (seen_entry entry)
written_at elements [] i entry all within is = absurd (omega arith)
written_at elements (first ∷ list) zero entry all within is = subst (λ (it : CutEntry). IsWritten elements (seen_entry it)) (sym is) all.0
written_at elements (first ∷ list) (suc i) entry all within is = written_at elements list i entry all.1 (omega (arith, within)) is

-- the line of an entry can be written
pub line_reaches : (names : List Name) (observer elements : ℕ) (entry : Entry) → IsWritten elements entry → HasReach (intersection_line names observer entry)
unfolding intersection_line
line_reaches names observer elements entry written = record { root = written.root; bounds = written.bounds; cut = written.cut }

targets_in : (world : World) (entries : List Entry) → AreWritten (length (world.tree.elements)) entries
    → AreIn world (map (λ (entry : Entry). IntersectionEntry (entry.target) (entry.finding.meets)) entries)
targets_in world [] written = tt
targets_in world (entry ∷ entries) written = (written.0.target, targets_in world entries written.1)

written_from : (names : List Name) (observer elements : ℕ) (entry : Entry) → entry.target < elements → HasReach (intersection_line names observer entry) → IsWritten elements entry
unfolding intersection_line
written_from names observer elements entry target reach = record { target = target; root = reach.root; bounds = reach.bounds; cut = reach.cut }

all_written : (world : World) (observer : ℕ) (entries : List Entry) → AreIn world (map (λ (entry : Entry). IntersectionEntry (entry.target) (entry.finding.meets)) entries)
    → AllByRecursion HasReach (intersection_lines (world.names) observer entries) → AreWritten (length (world.tree.elements)) entries
unfolding intersection_lines
all_written world observer [] targets reach = tt
all_written world observer (entry ∷ entries) targets reach =
    (written_from (world.names) observer (length (world.tree.elements)) entry targets.0 reach.0, all_written world observer entries targets.1 reach.1)

-- and those that are handed to a callback are such
pub handed_written : (world : World) (entries : Entries) (observer : WatcherId) (told : List Entry) → entries ≡ Intersection observer told → AreHanded world (entries_of entries)
    → AreWritten (length (world.tree.elements)) told
handed_written world entries observer told are handed =
    let it : AreHanded world (CutEntries observer.0 told) = subst (λ (found : Entries). AreHanded world (entries_of found)) are handed in
    all_written world observer.0 told it.targets it.reach

module _ (before after : Option (List ℕ)) (f g : ℕ) where
  -- a line and then others
  wrote_behind : (result : Result (Unit {0}) RunFault) (mid : Option (List ℕ)) (fm : ℕ) (line : TraceLine) (lines : List TraceLine)
      → Told {A = Unit {0}} (Ok tt) before mid f fm (line ∷ []) → Told result mid after fm g lines → Told result before after f g (line ∷ lines)
  wrote_behind result mid fm line lines first second =
      wrote_run {state = tt {0}} result (behind_run result (line ∷ []) first.0 first.1 (say_run result {lines = lines} {state = tt {0}} second))

  -- a line, of which a part was written, and then others
  wrote_begun : (fault : RunFault) (line : TraceLine) (lines : List TraceLine) → Told {A = Unit {0}} (Err fault) before after f g (line ∷ [])
      → Told {A = Unit {0}} (Err fault) before after f g (line ∷ lines)
  wrote_begun fault line lines wrote =
      wrote_run {A = Unit {0}} {state = tt {0}} (Err fault)
      (run_same (sym (say_more line lines (tt {0}))) (cut_saying {A = Unit {0}} fault (line ∷ []) (tt {0}) (say lines) wrote))

  -- the line of a queue that was taken, and then those of its entries
  module _ (names : List Name) (observer : ℕ) (name text : List ℕ) (list : List CutEntry) (entries : List Entry) (named : name ≡ text) (seen : seen_entries list ≡ entries) where
    count_is : length list ≡ length entries
    count_is = sym (length-map list seen_entry) ∙ ap (λ (it : List Entry). length it) seen

    line_is : TakeLine name (length list) ≡ TakeLine text (length entries)
    line_is = ap (λ (it : List ℕ). TakeLine it (length list)) named ∙ ap (TakeLine text) count_is

    lines_are : TakeLine name (length list) ∷ intersection_lines names observer (seen_entries list) ≡ TakeLine text (length entries) ∷ intersection_lines names observer entries
    lines_are =
        ap (λ (line : TraceLine). line ∷ intersection_lines names observer (seen_entries list)) line_is
        ∙ ap (λ (it : List Entry). TakeLine text (length entries) ∷ intersection_lines names observer it) seen

    pub taken_told : (result : Result (Unit {0}) RunFault) (mid : Option (List ℕ)) (fm : ℕ) → Told {A = Unit {0}} (Ok tt) before mid f fm (TakeLine name (length list) ∷ [])
        → Told result mid after fm g (intersection_lines names observer (seen_entries list))
        → Told result before after f g (TakeLine text (length entries) ∷ intersection_lines names observer entries)
    taken_told result mid fm first second =
        subst (λ (lines : List TraceLine). Told result before after f g lines) lines_are
        (wrote_behind result mid fm (TakeLine name (length list)) (intersection_lines names observer (seen_entries list)) first second)

    pub taken_untold : (fault : RunFault) → Told {A = Unit {0}} (Err fault) before after f g (TakeLine name (length list) ∷ [])
        → Told {A = Unit {0}} (Err fault) before after f g (TakeLine text (length entries) ∷ intersection_lines names observer entries)
    taken_untold fault wrote =
        subst (λ (lines : List TraceLine). Told {A = Unit {0}} (Err fault) before after f g lines) lines_are
        (wrote_begun fault (TakeLine name (length list)) (intersection_lines names observer (seen_entries list)) wrote)

-- a command that has no line
pub untold : (world : World) (done : Effect) (now : Option (List ℕ)) → done ≡ effect.Nothing → Says now now (lines_of world done)
untold world done now none =
    subst (λ (it : Effect). Says now now (lines_of world it)) (sym none) (says_none now)
