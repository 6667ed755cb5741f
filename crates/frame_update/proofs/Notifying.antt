-- The notify task of a document: its observers in order of making, each with the queue that it has at its turn.
use Rattle.std.proofs.Common.{◌≡◌, refl, ap, sym, subst, ◌∙◌, ◌≤◌, arith}
use Rattle.std.specs.Prelude.{ℕ, zero, suc, ◌<◌, ◌==◌, true, false, List, [], ◌∷◌, length, map, All, Option, Result}
use Rattle.std.proofs.lemmas.Bool.Decides.{nat_tests}
use Rattle.std.proofs.lemmas.List.Elements.{All-weaker}
use Rattle.trace_text.specs.Ranges.{HasReach}
use Rattle.page_model.specs.World.{Entry, IntersectionObserver, World}
use Rattle.page_model.specs.Lookups.{change_at, entry_or, no_intersection_observer, intersection_observer_at}
use Rattle.page_model.specs.Documents.{is_active}
use Rattle.page_model.specs.IntersectionObserving.{without_queue}
use Rattle.page_model.specs.Intersections.{notify, notify_watcher, notify_watchers, take_queue, watchers}
use Rattle.page_model.specs.Operands.{IntersectionEntry}
use Rattle.page_model.specs.Callbacks.{Script, CutEntries, call}
use Rattle.page_model.specs.EntryLines.{intersection_line, intersection_lines}
use Rattle.page_model.specs.Ranges.{IsPresentIn}
use Rattle.page_model.specs.Runs.{for_each, only_if, silent}
use Rattle.page_model.specs.Tasks.{without_notifying}
use Rattle.page_laws.proofs.Lists.{all-mapped}
use Rattle.intersection_observer.specs.declared.root.WatcherId.{WatcherId}
use Rattle.intersection_update.specs.Watching.{AreWritten, IsWritten, watcher_numbers}
use Rattle.handlers.specs.Entries.{AreHanded}
use Rattle.trace_runs.specs.declared.faults.RunFault.{RunFault}
use Rattle.trace_runs.specs.Flows.{goes_on}
use Rattle.trace_runs.specs.Runs.{Runs}
use Rattle.trace_runs.proofs.Loops.{each_mapped}
use Rattle.trace_runs.proofs.Runs.{run_same}
use Rattle.frame_update.proofs.Watchers.{called_made, changed_made}

-- what is handed to the callback ---------------------------------------------------------------------------------------------

pub cuts_handed : (world : World) (observer : ℕ) (entries : List Entry) → observer < length world.intersection_observers.made → AreWritten (length world.tree.elements) entries
    → AreHanded world (CutEntries observer entries)
unfolding intersection_lines intersection_line
cuts_handed world observer entries made written = record {
  caller = made;
  targets =
      all-mapped (IsWritten (length world.tree.elements)) (IsPresentIn world) (λ (entry : Entry). IntersectionEntry (entry.target) (entry.finding.meets)) (λ entry is. is.target) entries
      written;
  reach =
      all-mapped (IsWritten (length world.tree.elements)) HasReach (intersection_line (world.names) observer) (λ entry is. record { root = is.root; bounds = is.bounds; cut = is.cut }) entries
      written;
}

-- a queue that was taken -----------------------------------------------------------------------------------------------------

abbrev pub once_taken : ℕ → World → World
once_taken observer world = record world { intersection_observers = without_queue observer (world.intersection_observers) }

emptied-same : (place : ℕ) (made : List IntersectionObserver) → (entry_or no_intersection_observer made place).queue ≡ []
    → change_at (λ (each : IntersectionObserver). record each { queue = [] }) place made ≡ made
emptied-same place [] is = refl
emptied-same zero (x ∷ xs) is = ap (λ (queue : List Entry). record x { queue = queue } ∷ xs) (sym is)
emptied-same (suc place) (x ∷ xs) is = ap (λ (others : List IntersectionObserver). x ∷ others) (emptied-same place xs is)

-- one with nothing in it leaves the world as it is
pub nothing_taken : (observer : ℕ) (world : World) → (intersection_observer_at (world.intersection_observers) observer).queue ≡ [] → once_taken observer world ≡ world
nothing_taken observer world is =
    ap (λ (made : List IntersectionObserver). record world { intersection_observers = record (world.intersection_observers) { made = made } })
    (emptied-same observer (world.intersection_observers.made) is)

kept-at : {A : Type 0} (seen : IntersectionObserver → A) (change : IntersectionObserver → IntersectionObserver) → ((it : IntersectionObserver) → seen (change it) ≡ seen it) → (place : ℕ)
    (made : List IntersectionObserver) → seen (entry_or no_intersection_observer (change_at change place made) place) ≡ seen (entry_or no_intersection_observer made place)
kept-at seen change same place [] = refl
kept-at seen change same zero (x ∷ xs) = same x
kept-at seen change same (suc place) (x ∷ xs) = kept-at seen change same place xs

abbrev owner_in : World → ℕ → ℕ
owner_in world observer = (intersection_observer_at (world.intersection_observers) observer).document

abbrev called_in : World → ℕ → Option ℕ
called_in world observer = (intersection_observer_at (world.intersection_observers) observer).handler

taken_made : (observer least : ℕ) (world : World) → least ≤ length world.intersection_observers.made → least ≤ length (once_taken observer world).intersection_observers.made
taken_made observer least world made = changed_made least world made (λ each. record each { queue = [] }) observer

module _ (observer : ℕ) (world now : World) (taken : now ≡ once_taken observer world) where
  -- no observer is taken out
  pub there_taken : (n : ℕ) → n < length world.intersection_observers.made → n < length now.intersection_observers.made
  there_taken n made =
      let more : length world.intersection_observers.made ≤ length (once_taken observer world).intersection_observers.made =
      taken_made observer (length world.intersection_observers.made) world (omega arith) in
      subst (λ (it : World). n < length it.intersection_observers.made) (sym taken) (omega (arith, more, made))

  -- the entries can be handed on
  pub records_handed : (entries : List Entry) → observer < length world.intersection_observers.made → AreWritten (length world.tree.elements) entries → AreHanded now (CutEntries observer entries)
  records_handed entries made written =
      cuts_handed now observer entries (there_taken observer made) (subst (λ (it : World). AreWritten (length it.tree.elements) entries) (sym taken) written)

-- what is seen of a list is empty where the list is
pub empty_seen : {A B : Type 0} (seen : A → B) (slice : List A) (entries : List B) → map seen slice ≡ entries → length slice == 0 ≡ true → entries ≡ []
empty_seen seen [] entries is none = sym is
empty_seen seen (x ∷ xs) entries is none = absurd (grind (arith, nat_tests, none))

pub filled_seen : {A B : Type 0} (seen : A → B) (slice : List A) (entries : List B) → map seen slice ≡ entries → length slice == 0 ≡ false → entries ≡ [] → ⊥
filled_seen seen [] entries is some none = grind (arith, nat_tests, some)
filled_seen seen (x ∷ xs) entries is some none = cc

-- a turn -----------------------------------------------------------------------------------------------------------------------

module _ (script : Script) (observer : ℕ) where
  filled : (world : World) (queue : List Entry) → (queue ≡ [] → ⊥)
      → take_queue script queue observer world ≡ call script (owner_in world observer) (called_in world observer) (CutEntries observer queue) (once_taken observer world)
  filled world [] some = absurd (some refl)
  filled world (entry ∷ entries) some = refl

  -- nothing is done for an observer whose queue is empty
  pub turn_empty : (world : World) → (intersection_observer_at (world.intersection_observers) observer).queue ≡ [] → notify_watcher script observer world ≡ silent (once_taken observer world)
  turn_empty world is = ap (λ queue. take_queue script queue observer world) is ∙ ap silent (sym (nothing_taken observer world is))

  module _ (world now : World) (entries : List Entry) (are : entries ≡ (intersection_observer_at (world.intersection_observers) observer).queue) (some : entries ≡ [] → ⊥)
      (taken : now ≡ once_taken observer world) (document : ℕ) (handler : Option ℕ) (document_is : document ≡ owner_in now observer) (handler_is : handler ≡ called_in now observer) where
    turn_is : call script document handler (CutEntries observer entries) now ≡ notify_watcher script observer world
    turn_is =
        ap (λ it. call script it handler (CutEntries observer entries) now)
        (document_is ∙ ap (λ (it : World). owner_in it observer) taken ∙ kept-at (λ it. it.document) (λ each. record each { queue = [] }) (λ it. refl) observer (world.intersection_observers.made))
        ∙ ap (λ it. call script (owner_in world observer) it (CutEntries observer entries) now)
        (handler_is ∙ ap (λ (it : World). called_in it observer) taken ∙ kept-at (λ it. it.handler) (λ each. record each { queue = [] }) (λ it. refl) observer (world.intersection_observers.made))
        ∙ ap (λ it. call script (owner_in world observer) (called_in world observer) (CutEntries observer entries) it) taken
        ∙ sym (filled world entries some)
        ∙ ap (λ queue. take_queue script queue observer world) are

    -- the callback of one that has entries is called
    pub turn_run : {A : Type 0} {state : World} {before after : Option (List ℕ)} {f g : ℕ} (result : Result A RunFault)
        → Runs goes_on state result before after f g (call script document handler (CutEntries observer entries) now)
        → Runs goes_on state result before after f g (notify_watcher script observer world)
    turn_run result run = run_same turn_is run

  queue-made : (least : ℕ) (world : World) (queue : List Entry) → least ≤ length world.intersection_observers.made
      → least ≤ length (take_queue script queue observer world).state.intersection_observers.made
  queue-made least world [] made = made
  queue-made least world (entry ∷ entries) made = called_made least script _ _ _ (once_taken observer world) (taken_made observer least world made)

  -- the observers that were made are still there
  pub turn_made : (world after : World) → (notify_watcher script observer world).state ≡ after → length world.intersection_observers.made ≤ length after.intersection_observers.made
  turn_made world after is =
      subst (λ (now : World). length world.intersection_observers.made ≤ length now.intersection_observers.made) is
      (queue-made (length world.intersection_observers.made) world _ (omega arith))

-- the task ---------------------------------------------------------------------------------------------------------------------

abbrev pub once_cleared : ℕ → World → World
once_cleared document world = record world { notifying = without_notifying document (world.notifying) }

module _ (script : Script) (document : ℕ) (world : World) where
  pub notify_dropped : is_active (world.tree) document ≡ false → notify script document world ≡ silent world
  unfolding notify
  notify_dropped is = ap (only_if (notify_watchers script document) world) is

  pub notify_listed : (items : List WatcherId) (now : World) → is_active (world.tree) document ≡ true → watcher_numbers items ≡ watchers (world.tree) document (world.intersection_observers)
      → now ≡ once_cleared document world → notify script document world ≡ for_each (λ (item : WatcherId). notify_watcher script (item.0)) items now
  unfolding notify
  notify_listed items now is are cleared =
      ap (only_if (notify_watchers script document) world) is
      ∙ ap (λ (numbers : List ℕ). for_each (notify_watcher script) numbers (once_cleared document world)) (sym are)
      ∙ ap (λ (it : World). for_each (notify_watcher script) (watcher_numbers items) it) (sym cleared)
      ∙ sym (each_mapped (notify_watcher script) (λ (item : WatcherId). item.0) items now)

-- observers that there are
abbrev pub AreThere : World → List WatcherId → Type 0
AreThere world items = All (λ (item : WatcherId). item.0 < length world.intersection_observers.made) items

pub still_there : (before after : World) (items : List WatcherId) → length before.intersection_observers.made ≤ length after.intersection_observers.made → AreThere before items
    → AreThere after items
still_there before after items more there =
    All-weaker (λ (item : WatcherId). item.0 < length before.intersection_observers.made) (λ (item : WatcherId). item.0 < length after.intersection_observers.made)
    (λ item is. omega (arith, more, is)) items there

-- those that are listed, once the flag was cleared
pub listed_there : (document : ℕ) (items list : List WatcherId) (world now : World) → items ≡ list → now ≡ once_cleared document world → AreThere world list → AreThere now items
listed_there document items list world now are is there =
    subst (λ (it : World). AreThere it items) (sym is) (subst (λ (these : List WatcherId). AreThere world these) (sym are) there)
