-- What a tick does to single parts of a world, besides calling handlers: the world after it is a successor with the same tree, and its
-- numbers stay in range.
use Rattle.std.proofs.Common.{◌≡◌, refl, ap, sym, ◌∙◌, subst, arith, ◌≤◌, true≢false}
use Rattle.std.specs.Prelude.{ℕ, zero, suc, ◌<◌, ◌==◌, Bool, true, false, cond, not, map, filter, filter_map, List, [], ◌∷◌, ◌++◌, length, Option, Some, None, slice_get, unwrap_or, IfSome, ⊤}
use Rattle.std.specs.List.{AllByRecursion, list_any, cons_option}
use Rattle.page_model.specs.World.{Extent, Document, Container, Observation, ResizeObserver, ResizeObservers, Finding, Entry, Registration, IntersectionObserver, IntersectionObservers, QueryList, Task, Notify, Tree, World}
use Rattle.page_model.specs.Lookups.{no_document, change_at}
use Rattle.page_model.specs.Documents.{is_active, is_active_state}
use Rattle.page_model.specs.Viewports.{with_noted}
use Rattle.page_model.specs.Scrolls.{without_pending}
use Rattle.page_model.specs.QueryLists.{with_state}
use Rattle.page_model.specs.FrameCallbacks.{frame_callback_taken}
use Rattle.page_model.specs.Timers.{timer_taken}
use Rattle.page_model.specs.Tasks.{is_notifying, with_notifying, without_notifying}
use Rattle.page_model.specs.IntersectionObserving.{without_queue}
use Rattle.page_model.specs.Gathering.{Sight, has_changed, is_deeper, is_of, gathered_if, observed_size, reported, with_reported, without_active}
use Rattle.page_model.specs.Intersections.{Settled, is_news, settled, settled_observer, settling, has_queued, watchers, with_notify_task, found_now, update_intersections}
use Rattle.page_model.specs.Loop.{gather, emptied}
use Rattle.page_model.specs.Ranges.{Counts, counts_of, IsScrollIn, IsResizeObserverIn, IsIntersectionObserverIn, AreObserved, IsTaskIn, IsInRange}
use Rattle.page_laws.specs.Successors.{IsSuccessor}
use Rattle.page_laws.specs.Bounds.{AreTasksWithin}
use Rattle.page_laws.proofs.Lists.{IsKept, all-add, all-append, all-filter, all-mapped, still-kept, then-kept, put-within, changed, mapped}
use Rattle.page_laws.proofs.Ranges.{with-scrolls, resize-in, intersection-in, queries-in}
use Rattle.page_laws.specs.Changed.{QueueTaken}
use Rattle.page_laws.proofs.Parts.{lists-in, registered-in, resize-changed, intersections-kept}
use Rattle.page_laws.proofs.InRange.{frame-callbacks-in, timers-in, tasks-in, viewports-in}
use Rattle.page_laws.proofs.Successors.{IsAlike, still, alike, same-tree}
use Rattle.page_laws.proofs.Waiting.{tasks-alike, taken-within, unmarked-within, marked-within}

pub record IsNext (before after : World) : Type 0 where
  pub successor : IsSuccessor before after
  pub tree : after.tree ≡ before.tree
  pub within : (handlers : ℕ) → IsInRange handlers before → IsInRange handlers after
  pub observers : length after.resize_observers.made ≡ length before.resize_observers.made
  pub queries : length after.queries ≡ length before.queries
  pub tasks : AreTasksWithin before → AreTasksWithin after

pub same-next : (world : World) → IsNext world world
same-next world = record { successor = still world; tree = refl; within = λ handlers within. within; observers = refl; queries = refl; tasks = λ within. within }

pub then-next : {first second third : World} → IsNext first second → IsNext second third → IsNext first third
then-next {first = first} {third = third} one two = record {
  successor = chained (one.successor) (two.successor);
  tree = two.tree ∙ one.tree;
  observers = two.observers ∙ one.observers;
  queries = two.queries ∙ one.queries;
  tasks = λ within. two.tasks (one.tasks within);
  within = λ handlers within. two.within handlers (one.within handlers within);
}
  where
    chained : {second : World} → IsSuccessor first second → IsSuccessor second third → IsSuccessor first third
    chained a b = record {
      elements = omega (arith, a.elements, b.elements);
      states = λ wanted document come. b.states wanted document (a.states wanted document come);
      names = λ text thing is. b.names text thing (a.names text thing is);
      clock = b.clock ∙ a.clock;
      begun = b.begun ∙ a.begun;
      version = b.version ∙ a.version;
    }

-- only documents that are there are Active

active-place : (documents : List Document) (n : ℕ) → is_active_state (unwrap_or (slice_get documents n) no_document).state ≡ true → n < length documents
active-place [] n is = absurd (true≢false (sym is))
active-place (x ∷ xs) zero is = omega arith
active-place (x ∷ xs) (suc n) is = let below : n < length xs = active-place xs n is in omega arith

pub active-in : (tree : Tree) (document : ℕ) → is_active tree document ≡ true → document < length tree.documents
active-in tree document is = active-place (tree.documents) document is

module _ (world : World) where
  -- where besides the tree and the names also tasks and marks are as they were
  apart : (after : World) → IsAlike world after → after.notifying ≡ world.notifying → after.tasks ≡ world.tasks →
      length after.resize_observers.made ≡ length world.resize_observers.made → length after.queries ≡ length world.queries →
      ((handlers : ℕ) → IsInRange handlers world → IsInRange handlers after) → IsNext world after
  apart after same notifying tasks observers queries within = record {
    successor = alike world after same;
    tree = same-tree world after same;
    within = within;
    observers = observers;
    queries = queries;
    tasks = tasks-alike world after (ap (λ (tree : Tree). length tree.documents) (same-tree world after same)) notifying tasks;
  }

  pub timer-next : (serial : ℕ) → IsNext world (record world { timers = timer_taken serial (world.timers) })
  timer-next serial =
      apart _ refl refl refl refl refl (λ handlers within. timers-in handlers world within _ (all-filter _ _ (world.timers.held) within.timers))

  pub frame-next : (serial : ℕ) → IsNext world (record world { frame_callbacks = frame_callback_taken serial (world.frame_callbacks) })
  frame-next serial =
      apart _ refl refl refl refl refl
      (λ handlers within. frame-callbacks-in handlers world within _ (all-filter _ _ (world.frame_callbacks.held) within.frame_callbacks))

  pub noted-next : (document : ℕ) (size : Extent) → document < length world.tree.documents →
      IsNext world (record world { viewports = with_noted document size (world.viewports) })
  noted-next document size is =
      apart _ refl refl refl refl refl (λ handlers within. viewports-in handlers world within _
      (put-within (length world.tree.documents) None document (Some size) (world.viewports.noted) is within.noted))

  pub pending-next : (document : ℕ) → IsNext world (record world { scrolls = without_pending document (world.scrolls) })
  pending-next document =
      apart _ refl refl refl refl refl (λ handlers within.
      let counts : Counts = counts_of handlers world in
      let kept = changed (AllByRecursion (IsScrollIn counts)) (λ (pending : List Container). []) (λ pending all. tt) document (world.scrolls.pending) in
      let same : length (without_pending document (world.scrolls)).pending ≡ length world.scrolls.pending = kept.same in
      with-scrolls counts world _ within (record {
        elements = within.scrolls.elements;
        documents = within.scrolls.documents;
        listed = omega (arith, within.scrolls.listed);
        pending = kept.within within.scrolls.pending;
      }))

  pub matched-next : (matched : Bool) (query : ℕ) → IsNext world (record world { queries = with_state matched query (world.queries) })
  matched-next matched query =
      apart _ refl refl refl refl (changed (λ (list : QueryList). ⊤) (λ it. record it { matched = matched }) (λ it is. is) query (world.queries)).same
      (λ handlers within. queries-in handlers world _ (changed (λ (list : QueryList). list.document < length world.tree.documents)
      (λ it. record it { matched = matched }) (λ it is. is) query (world.queries)) within)

  pub tasks-next : (task : Task) (others : List Task) → world.tasks ≡ task ∷ others → IsNext world (record world { tasks = others })
  tasks-next task others are = record {
    tasks = taken-within world task others are;
    successor = alike world _ refl;
    tree = refl;
    observers = refl;
    queries = refl;
    within = λ handlers within.
        tasks-in handlers world within others (subst (λ (tasks : List Task). AllByRecursion (IsTaskIn (counts_of handlers world)) tasks) are within.tasks).1;
  }

  -- a notify task is taken off, and its document isn't marked any more
  pub unnotified-next : (document : ℕ) (others : List Task) → world.tasks ≡ Notify document ∷ others →
      IsNext world (record world { tasks = others; notifying = without_notifying document (world.notifying) })
  unnotified-next document others are = record {
    tasks = unmarked-within world document others are;
    successor = alike world _ refl;
    tree = refl;
    observers = refl;
    queries = refl;
    within = λ handlers within.
        let same : length (without_notifying document (world.notifying)) ≡ length world.notifying =
        (changed (λ (flag : Bool). ⊤) (λ flag. false) (λ flag is. is) document (world.notifying)).same in
        let most : length world.notifying ≤ length world.tree.documents = within.notifying in
        flags-in handlers ((tasks-next (Notify document) others are).within handlers within) (omega arith);
  }
    where
      flags-in : (handlers : ℕ) → IsInRange handlers (record world { tasks = others }) →
          length (without_notifying document (world.notifying)) ≤ length world.tree.documents →
          IsInRange handlers (record world { tasks = others; notifying = without_notifying document (world.notifying) })
      flags-in handlers within fits = search

  pub notified-next : (document : ℕ) (already : Bool) → is_notifying document (world.notifying) ≡ already → document < length world.tree.documents →
      IsNext world (with_notify_task document already world)
  notified-next document true marked is = same-next world
  notified-next document false free is = record {
    tasks = marked-within world document is free;
    successor = alike world _ refl;
    tree = refl;
    observers = refl;
    queries = refl;
    within = λ handlers within. both-in handlers within
        (put-within (length world.tree.documents) false document true (world.notifying) is within.notifying)
        (all-add (IsTaskIn (counts_of handlers world)) (world.tasks) (Notify document) within.tasks is);
  }
    where
      both-in : (handlers : ℕ) → IsInRange handlers world → length (with_notifying document (world.notifying)) ≤ length world.tree.documents →
          AllByRecursion (IsTaskIn (counts_of handlers world)) (world.tasks ++ Notify document ∷ []) →
          IsInRange handlers (with_notify_task document false world)
      both-in handlers within fits all = search

  -- observers

  pub resize-next : (after : ResizeObservers) → ((counts : Counts) → IsKept (IsResizeObserverIn counts) world.resize_observers.made after.made) →
      IsNext world (record world { resize_observers = after })
  resize-next after kept =
      apart _ refl refl refl (kept (counts_of 0 world)).same refl (λ handlers within. resize-in handlers world after (kept (counts_of handlers world)) within)

  pub intersection-next : (after : IntersectionObservers) →
      ((counts : Counts) → IsKept (IsIntersectionObserverIn counts) world.intersection_observers.made after.made) →
      IsNext world (record world { intersection_observers = after })
  intersection-next after kept =
      apart _ refl refl refl refl refl (λ handlers within. intersection-in handlers world after (kept (counts_of handlers world)) within)

  pub queue-next : (observer : ℕ) → IsNext world (record world { intersection_observers = without_queue observer (world.intersection_observers) })
  queue-next observer = intersection-next _ (λ counts. intersections-kept counts (world.intersection_observers) (QueueTaken observer))

  pub inactive-next : (observer : ℕ) → IsNext world (record world { resize_observers = without_active observer (world.resize_observers) })
  inactive-next observer =
      resize-next _ (λ counts. resize-changed counts (world.resize_observers) observer _
      (λ each is. lists-in counts each is _ [] _ is.targets tt is.skipped))

  emptied-if : (test : Bool) (observer : ℕ) → IsNext world
      (cond test (record world { resize_observers = without_active observer (world.resize_observers) }) world)
  emptied-if true observer = inactive-next observer
  emptied-if false observer = same-next world

  pub emptied-next : (document observer : ℕ) → IsNext world (emptied document observer world)
  emptied-next document observer = emptied-if (is_active (world.tree) document) observer

-- gathering and reporting

reported-at : (counts : Counts) (sight : Sight) (delivered : List Observation) (it : Observation) → it.target < counts.elements →
    (reported sight delivered it).target < counts.elements
reported-at counts sight delivered it is = by_test (list_any (λ (each : Observation). each.serial == it.serial) delivered)
  where
    by_test : (test : Bool) → (cond test (record it { last = observed_size sight it }) it).target < counts.elements
    by_test true = is
    by_test false = is

pub reported-next : (world : World) (sight : Sight) (observer : ℕ) (delivered : List Observation) →
    IsNext world (record world { resize_observers = with_reported sight observer delivered (world.resize_observers) })
reported-next world sight observer delivered =
    resize-next world _ (λ counts. resize-changed counts (world.resize_observers) observer _ (λ each is. lists-in counts each is _ _ _
    (all-mapped (λ (it : Observation). it.target < counts.elements) (λ it. it.target < counts.elements) (reported sight delivered)
    (reported-at counts sight delivered) (each.targets) is.targets) is.active is.skipped))

gathered-if-in : (counts : Counts) (test : Bool) (sight : Sight) (depth : ℕ) (it : ResizeObserver) → IsResizeObserverIn counts it →
    IsResizeObserverIn counts (gathered_if test sight depth it)
gathered-if-in counts false sight depth it is = is
gathered-if-in counts true sight depth it is =
    let changed_ones : AreObserved counts (filter (has_changed sight) (it.targets)) = all-filter _ (has_changed sight) (it.targets) is.targets in
    lists-in counts it is _ _ _ is.targets
    (all-filter _ (is_deeper sight depth) (filter (has_changed sight) (it.targets)) changed_ones)
    (all-filter _ (λ observation. not (is_deeper sight depth observation)) (filter (has_changed sight) (it.targets)) changed_ones)

pub gather-next : (document depth : ℕ) (world : World) → IsNext world (gather document depth world)
unfolding gather
gather-next document depth world =
    resize-next world _ (λ counts. mapped (IsResizeObserverIn counts) _ (λ it is. gathered-if-in counts (is_of document it) _ depth it is)
    (world.resize_observers.made))

-- intersections

-- the entries queued are of registered targets

pub news-in : (P : Entry → Type 0) (entry : Entry) (news : Bool) → P entry → IfSome (cond news (Some entry) None) P
news-in P entry true is = is
news-in P entry false is = tt

cons-in : (P : Entry → Type 0) (found : Option Entry) (rest : List Entry) → IfSome found P → AllByRecursion P rest → AllByRecursion P (cons_option found rest)
cons-in P None rest is all = all
cons-in P (Some entry) rest is all = (is, all)

pub all-filter-map : {A : Type 0} (find : A → Option Entry) (P : Entry → Type 0) (xs : List A) → AllByRecursion (λ x. IfSome (find x) P) xs →
    AllByRecursion P (filter_map find xs)
all-filter-map find P [] all = tt
all-filter-map find P (x ∷ xs) all = cons-in P (find x) (filter_map find xs) (all.0) (all-filter-map find P xs (all.1))

entries-settled : (counts : Counts) (time : ℕ) (find : ℕ → Finding) (registrations : List Registration) →
    AllByRecursion (λ (each : Registration). each.target < counts.elements) registrations →
    AllByRecursion (λ (each : Entry). each.target < counts.elements)
    (filter_map (λ (it : Settled). it.entry) (map (λ (registration : Registration). settled time (find (registration.target)) registration) registrations))
entries-settled counts time find registrations all =
    all-filter-map (λ (it : Settled). it.entry) _ _
    (all-mapped (λ (each : Registration). each.target < counts.elements) (λ (it : Settled). IfSome it.entry (λ each. each.target < counts.elements)) _
    (λ each is. news-in (λ (entry : Entry). entry.target < counts.elements) _ (is_news each (find (each.target))) is) registrations all)

settled-in : (counts : Counts) (time : ℕ) (find : IntersectionObserver → ℕ → Finding) (it : IntersectionObserver) → IsIntersectionObserverIn counts it →
    IsIntersectionObserverIn counts (settled_observer time find it)
settled-in counts time find it is =
    registered-in counts it is _ _
    (all-mapped _ _ _ (λ settled_one held. held) _ (all-mapped _ (λ (each : Settled). each.registration.target < counts.elements) _
    (λ registration held. held) (it.registrations) is.registrations))
    (all-append _ (it.queue) _ is.queue (entries-settled counts time (find it) (it.registrations) is.registrations))

-- observers settled one after the other
pub settling-kept : (counts : Counts) (time : ℕ) (find : ℕ → IntersectionObserver → ℕ → Finding) (observers : List ℕ) (it : IntersectionObservers) →
    IsKept (IsIntersectionObserverIn counts) (it.made) (settling time find observers it).made
settling-kept counts time find [] it = still-kept (IsIntersectionObserverIn counts) (it.made)
settling-kept counts time find (observer ∷ others) it =
    let change : IntersectionObserver → IntersectionObserver = settled_observer time (find observer) in
    then-kept (changed (IsIntersectionObserverIn counts) change (settled-in counts time (find observer)) observer (it.made))
    (settling-kept counts time find others (record it { made = change_at change observer (it.made) }))

pub update-next : (document : ℕ) (world : World) → document < length world.tree.documents → IsNext world (update_intersections document world)
unfolding update_intersections
update-next document world is =
    let observers = watchers (world.tree) document (world.intersection_observers) in
    let settled_ones = settling (world.clock) (found_now world) observers (world.intersection_observers) in
    let now = record world { intersection_observers = settled_ones } in
    let first : IsNext world now =
    intersection-next world settled_ones (λ counts. settling-kept counts (world.clock) (found_now world) observers (world.intersection_observers)) in
    by_test settled_ones first (list_any (has_queued (world.intersection_observers) settled_ones) observers)
  where
    by_test : (it : IntersectionObservers) → IsNext world (record world { intersection_observers = it }) → (test : Bool) →
        IsNext world (cond test (with_notify_task document (is_notifying document (world.notifying)) (record world { intersection_observers = it }))
        (record world { intersection_observers = it }))
    by_test it first true =
        then-next first
        (notified-next (record world { intersection_observers = it }) document (is_notifying document (world.notifying)) refl is)
    by_test it first false = first
