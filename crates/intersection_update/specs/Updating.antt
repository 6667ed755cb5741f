-- The result of updating a document's intersection observers (Intersection Observer, 3.2.10: run the update intersection
-- observations steps).
use Rattle.std.specs.Prelude.{◌≡◌, ◌⊎◌, ℕ, ◌+◌, ◌==◌, Bool, true, cond, List, length, take, slice_get, count_by, Some}
use Rattle.std.specs.List.{list_any}
use Rattle.script_model.specs.Margins.{Margins}
use Rattle.page_model.specs.World.{Finding, Entry, Registration, IntersectionObserver, IntersectionObservers, Tree}
use Rattle.page_model.specs.Shown.{Shown}
use Rattle.page_model.specs.Lookups.{intersection_observer_at, scroll_margins_at}
use Rattle.page_model.specs.Findings.{finding}
use Rattle.page_model.specs.Intersections.{is_rooted_in, watchers, is_news, settled_observer, settling, has_queued}
use Rattle.intersection_observer.specs.Places.{standing_of}
use Rattle.intersection_observer.specs.Serials.{HasSerials, registrations_at}
use Rattle.intersection_observer.specs.Settling.{each_settled}
use Rattle.intersection_observer.specs.Watchers.{HeldWatchers}
use Rattle.candidate_index.specs.Registrations.{serials_at}
use Rattle.intersection_update.specs.Watching.{AreWatchers}

-- what the observer with this number finds, through its scroll margins
abbrev pub found_through : Shown → List Margins → ℕ → IntersectionObserver → ℕ → Finding
found_through shown margins watcher = finding shown (scroll_margins_at margins watcher)

-- the observers, after those whose root is the document or in its tree were settled by what is found in the page as shown
abbrev pub updated : Shown → List Margins → Tree → ℕ → ℕ → IntersectionObservers → IntersectionObservers
updated shown margins tree document time it = settling time (found_through shown margins) (watchers tree document it) it

-- whether an update queued an entry for one of these observers, so that the document has to be notified
abbrev pub has_news : Tree → ℕ → IntersectionObservers → IntersectionObservers → Bool
has_news tree document before now = list_any (has_queued before now) (watchers tree document before)

-- observers with the same root, root margin and thresholds
pub record AreAlike (a b : IntersectionObserver) : Type 0 where
  pub root : b.root ≡ a.root
  pub margins : b.margins ≡ a.margins
  pub thresholds : b.thresholds ≡ a.thresholds

-- each registration has the same observer and the same target as before, in the same order; the observers are those that there
-- were, with the same root, root margin and thresholds; and serial numbers stay unique if they were
pub record Carried (before after : IntersectionObservers) : Type 0 where
  pub standing : (serial : ℕ) → standing_of serial after ≡ standing_of serial before
  pub alike : (watcher : ℕ) → AreAlike (intersection_observer_at before watcher) (intersection_observer_at after watcher)
  pub listed : (watcher : ℕ) → serials_at after watcher ≡ serials_at before watcher
  pub serials : HasSerials before → HasSerials after
  pub count : length after.made ≡ length before.made

-- what no change of an update alters
pub record AreKept (elements : ℕ) (before now : HeldWatchers) : Type 0 where
  pub rest : record before { part = now.part } ≡ now
  pub carried : Carried before.part now.part
  pub given : now.part.given ≡ before.part.given
  pub written : AreWatchers elements before.part.made → AreWatchers elements now.part.made

-- the observers after the first `place` registrations of one of them were settled, one after the other
abbrev pub first_settled : Shown → List Margins → ℕ → ℕ → ℕ → IntersectionObservers → IntersectionObservers
first_settled shown margins time watcher place it =
    each_settled time (found_through shown margins watcher (intersection_observer_at it watcher)) (take place (registrations_at it watcher)) it

-- the registrations of an observer up to some place were settled, and no others
pub record IsBegun (shown : Shown) (margins : List Margins) (time watcher : ℕ) (before now : IntersectionObservers) : Type 0 where
  pub place : ℕ
  pub settled : now ≡ first_settled shown margins time watcher place before

-- the same as `updated` for the first `number` observers only
abbrev pub first_updated : Shown → List Margins → Tree → ℕ → ℕ → ℕ → IntersectionObservers → IntersectionObservers
first_updated shown margins tree document time number it =
    settling time (found_through shown margins) (watchers tree document (record it { made = take number (it.made) })) it

-- an update that stopped at a registration of an observer whose root is the document or in its tree, or before the first one of
-- an observer: all that came before is settled, and nothing else
pub record IsStopped (shown : Shown) (margins : List Margins) (tree : Tree) (document time : ℕ) (before now : IntersectionObservers) : Type 0 where
  pub number : ℕ
  pub place : ℕ
  pub rooted : (place ≡ 0) ⊎ (is_rooted_in tree document (intersection_observer_at before number).root ≡ true)
  pub settled : now ≡ first_settled shown margins time number place (first_updated shown margins tree document time number before)

-- the observer with this number, settled if its root is the document or in its tree
abbrev pub settled_if_rooted : Shown → List Margins → Tree → ℕ → ℕ → ℕ → IntersectionObserver → IntersectionObserver
settled_if_rooted shown margins tree document time watcher observer =
    cond (is_rooted_in tree document (observer.root)) (settled_observer time (found_through shown margins watcher) observer) observer

-- whether an entry is for a target
abbrev pub is_of : ℕ → Entry → Bool
is_of target entry = target == entry.target

-- the registration at a place holds what was found of its target, and the queue has one more entry for that target exactly if
-- this is news
pub record IsSettledBy (found : Finding) (registration : Registration) (place : ℕ) (before now : IntersectionObserver) : Type 0 where
  pub stored : slice_get now.registrations place ≡ Some (record registration { previous_index = Some (found.index); met = found.meets })
  pub entries : count_by (is_of registration.target) now.queue ≡ count_by (is_of registration.target) before.queue + cond (is_news registration found) 1 0

-- each registration that an update of the document looks at holds what was found of its target, and got one entry exactly if that
-- is news
abbrev pub AreSettled : Shown → List Margins → ℕ → (before now : IntersectionObservers) → Type 0
AreSettled shown margins document before now =
    (watcher place : ℕ) (registration : Registration) → is_rooted_in shown.tree document (intersection_observer_at before watcher).root ≡ true → slice_get (registrations_at before watcher) place ≡ Some registration →
    IsSettledBy (found_through shown margins watcher (intersection_observer_at before watcher) registration.target) registration place (intersection_observer_at before watcher) (intersection_observer_at now watcher)
