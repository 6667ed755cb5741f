-- The intersection observers of a page, their registrations and the entries in their queues (Intersection Observer, 3.1).
use Rattle.std.specs.Prelude.{ℕ, Bool, ◌<◌, ◌&&◌, nat_lt, List, length, map}
use Rattle.std.specs.List.{AllByRecursion, list_any}
use Rattle.trace_text.specs.Ranges.{RectReaches}
use Rattle.page_model.specs.World.{Tree, Entry, Registration, IntersectionObserver, IntersectionObservers}
use Rattle.page_model.specs.Intersections.{is_rooted_in}
use Rattle.intersection_observer.specs.declared.root.WatcherId.{WatcherId}

-- an entry for an element that exists, with rectangles in the range that can be written
pub record IsWritten (elements : ℕ) (entry : Entry) : Type 0 where
  pub target : entry.target < elements
  pub root : RectReaches entry.finding.root
  pub bounds : RectReaches entry.finding.bounds
  pub cut : RectReaches entry.finding.cut

abbrev pub AreWritten : ℕ → List Entry → Type 0
AreWritten elements entries = AllByRecursion (IsWritten elements) entries

pub record IsWatcher (elements : ℕ) (it : IntersectionObserver) : Type 0 where
  pub registrations : AllByRecursion (λ (each : Registration). each.target < elements) it.registrations
  pub queue : AreWritten elements it.queue

abbrev pub AreWatchers : ℕ → List IntersectionObserver → Type 0
AreWatchers elements made = AllByRecursion (IsWatcher elements) made

abbrev pub watcher_numbers : List WatcherId → List ℕ
watcher_numbers watchers = map (λ (watcher : WatcherId). watcher.0) watchers

-- whether an observer that is updated with a document has a registration
abbrev pub is_watching : Tree → ℕ → IntersectionObserver → Bool
is_watching tree document observer = is_rooted_in tree document (observer.root) && nat_lt 0 (length observer.registrations)

-- whether an update of a document looks at any registration
abbrev pub is_watched : Tree → ℕ → IntersectionObservers → Bool
is_watched tree document it = list_any (is_watching tree document) (it.made)

-- whether an observer that is updated with a document has an entry in its queue
abbrev pub has_entry : Tree → ℕ → IntersectionObserver → Bool
has_entry tree document observer = is_rooted_in tree document (observer.root) && nat_lt 0 (length observer.queue)

-- whether an entry waits at an observer that is updated with a document
abbrev pub have_entries : Tree → ℕ → IntersectionObservers → Bool
have_entries tree document it = list_any (has_entry tree document) (it.made)
