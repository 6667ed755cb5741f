-- Updating intersection observations and notifying their observers (Intersection Observer, 3.2).
use Rattle.std.specs.Prelude.{ℕ, suc, Bool, true, false, cond, not, ◌==◌, ◌&&◌, nat_lt, List, [], ◌∷◌, ◌++◌, map, filter_map, length, Option, Some, None}
use Rattle.std.specs.List.{list_any}
use Rattle.page_model.specs.World.{World, Tree, Root, ImplicitRoot, DocumentRoot, ElementRoot, Finding, Entry, Registration, IntersectionObserver, IntersectionObservers, Notify}
use Rattle.page_model.specs.Lookups.{intersection_observer_at, scroll_margins_at, change_intersection_observer}
use Rattle.page_model.specs.Documents.{is_active, is_number, tree_document}
use Rattle.page_model.specs.IntersectionObserving.{without_queue}
use Rattle.page_model.specs.Tasks.{with_task, is_notifying, with_notifying, without_notifying}
use Rattle.page_model.specs.Shown.{shown_of}
use Rattle.page_model.specs.Findings.{finding}
use Rattle.page_model.specs.Runs.{Said, silent, for_each, only_if}
use Rattle.page_model.specs.Callbacks.{Script, CutEntries, call}

-- the indices of the entries that pass a test, counted from a first index
abbrev pub places_from : {A : Type 0} → ℕ → (A → Bool) → List A → List ℕ
places_from place test [] = []
places_from place test (x ∷ xs) =
    let others = places_from (suc place) test xs in
    cond (test x) (place ∷ others) others

abbrev pub is_rooted_in : Tree → ℕ → Root → Bool
is_rooted_in tree document ImplicitRoot = document == 0
is_rooted_in tree document (DocumentRoot root) = root == document
is_rooted_in tree document (ElementRoot root) = is_number (tree_document tree root) document

-- the intersection observers whose root is a document or an element in its tree, in order of creation; the implicit root counts as
-- the top document
abbrev pub watchers : Tree → ℕ → IntersectionObservers → List ℕ
watchers tree document it = places_from 0 (λ (observer : IntersectionObserver). is_rooted_in tree document (observer.root)) (it.made)

-- a registration after an update, with the entry to be queued if the threshold index or isIntersecting has changed
pub record Settled : Type 0 where
  pub registration : Registration
  pub entry : Option Entry

abbrev pub is_same_bool : Bool → Bool → Bool
is_same_bool true b = b
is_same_bool false b = not b

abbrev pub is_news : Registration → Finding → Bool
is_news registration now =
    not (is_number (registration.previous_index) (now.index) && is_same_bool (registration.met) (now.meets))

-- a registration updated by a finding for its target at this time
abbrev pub settled : ℕ → Finding → Registration → Settled
settled time now registration = record {
  registration = record registration { previous_index = Some (now.index); met = now.meets };
  entry = cond (is_news registration now) (Some (record { target = registration.target; time = time; finding = now })) None;
}

-- an observer with its registrations updated by the findings for their targets, and the new entries queued
abbrev pub settled_observer : ℕ → (IntersectionObserver → ℕ → Finding) → IntersectionObserver → IntersectionObserver
settled_observer time find observer =
    let each = map (λ (registration : Registration). settled time (find observer (registration.target)) registration) (observer.registrations) in
    record observer {
      registrations = map (λ (it : Settled). it.registration) each;
      queue = observer.queue ++ filter_map (λ (it : Settled). it.entry) each;
    }

-- updates these observers, each by its own findings
abbrev pub settling : ℕ → (ℕ → IntersectionObserver → ℕ → Finding) → List ℕ → IntersectionObservers → IntersectionObservers
settling time find [] it = it
settling time find (observer ∷ others) it =
    settling time find others (change_intersection_observer (settled_observer time (find observer)) observer it)

-- queues a notify task for a document, unless one is queued already (queue an intersection observer task)
abbrev pub with_notify_task : ℕ → Bool → World → World
with_notify_task document true world = world
with_notify_task document false world =
    record world { notifying = with_notifying document (world.notifying); tasks = with_task (Notify document) (world.tasks) }

abbrev pub has_queued : IntersectionObservers → IntersectionObservers → ℕ → Bool
has_queued before now observer =
    nat_lt (length (intersection_observer_at before observer).queue) (length (intersection_observer_at now observer).queue)

-- what the observer with this number finds for a target now
abbrev pub found_now : World → ℕ → IntersectionObserver → ℕ → Finding
found_now world number observer target = finding (shown_of world) (scroll_margins_at (world.scroll_margins) number) observer target

-- update intersection observations of a document: all findings are computed from the world as it is when the update begins
unfoldable pub update_intersections : ℕ → World → World
unfolding finding tree_document
update_intersections document world =
    let observers = watchers (world.tree) document (world.intersection_observers) in
    let settled = settling (world.clock) (found_now world) observers (world.intersection_observers) in
    let now = record world { intersection_observers = settled } in
    cond (list_any (has_queued (world.intersection_observers) settled) observers)
    (with_notify_task document (is_notifying document (world.notifying)) now)
    now

-- if an observer's queue isn't empty, it is cleared and the callback is invoked with its entries
abbrev pub take_queue : Script → List Entry → ℕ → World → Said World
take_queue script [] observer world = silent world
take_queue script (entry ∷ entries) observer world =
    let it = intersection_observer_at (world.intersection_observers) observer in
    call script (it.document) (it.handler) (CutEntries observer (entry ∷ entries))
    (record world { intersection_observers = without_queue observer (world.intersection_observers) })

abbrev pub notify_watcher : Script → ℕ → World → Said World
notify_watcher script observer world =
    take_queue script (intersection_observer_at (world.intersection_observers) observer).queue observer world

abbrev pub notify_watchers : Script → ℕ → World → Said World
notify_watchers script document world =
    for_each
    (notify_watcher script)
    (watchers (world.tree) document (world.intersection_observers))
    (record world { notifying = without_notifying document (world.notifying) })

-- the notify task of a document (notify intersection observers); it does nothing if the document isn't Active
unfoldable pub notify : Script → ℕ → World → Said World
unfolding for_each call tree_document
notify script document world = only_if (notify_watchers script document) world (is_active (world.tree) document)
