-- Numbers that are in range stay so where there is more of a thing, and where a part of the world is changed.
use Rattle.std.proofs.Common.{◌≡◌, arith, ◌≤◌}
use Rattle.std.specs.Prelude.{ℕ, ◌<◌, List, length, Option, IfSome}
use Rattle.std.specs.List.{AllByRecursion}
use Rattle.script_model.specs.Margins.{Margins}
use Rattle.page_model.specs.World.{Element, Document, Tree, Scrolls, Container, InElement, InDocument, Thing, DocumentThing, ElementThing, ResizeObserverThing, IntersectionObserverThing, QueryListThing, Name, Observation, ResizeObserver, ResizeObservers, Root, ImplicitRoot, DocumentRoot, ElementRoot, Registration, Entry, IntersectionObserver, IntersectionObservers, QueryList, EventTarget, ElementTarget, DocumentTarget, WindowTarget, QueryTarget, Task, Notify, Posted, World}
use Rattle.page_model.specs.Ranges.{Counts, counts_of, IsElementIn, IsScrollIn, IsDocumentIn, IsTreeIn, AreScrollsIn, IsThingIn, IsResizeObserverIn, IsRootIn, IsIntersectionObserverIn, IsEventTargetIn, IsListenerIn, IsFrameCallbackIn, IsTimerIn, IsTaskIn, IsWithin, IsInRange}
use Rattle.page_laws.proofs.Lists.{all-map, some-map, IsKept}

-- more of each thing

pub record IsMore (counts more : Counts) : Type 0 where
  pub elements : counts.elements ≤ more.elements
  pub documents : counts.documents ≤ more.documents
  pub resize_observers : counts.resize_observers ≤ more.resize_observers
  pub intersection_observers : counts.intersection_observers ≤ more.intersection_observers
  pub queries : counts.queries ≤ more.queries
  pub handlers : counts.handlers ≤ more.handlers

below : {n a b : ℕ} → a ≤ b → n < a → n < b
below more less = omega arith

at-most : {n a b : ℕ} → a ≤ b → n ≤ a → n ≤ b
at-most more less = omega arith

some-below : {a b : ℕ} → a ≤ b → (found : Option ℕ) → IfSome found (λ n. n < a) → IfSome found (λ n. n < b)
some-below more found is = some-map _ _ (λ n. below more) found is

all-below : {A : Type 0} {a b : ℕ} (number : A → ℕ) → a ≤ b → (xs : List A) → AllByRecursion (λ x. number x < a) xs → AllByRecursion (λ x. number x < b) xs
all-below number more xs all = all-map _ _ (λ x. below more) xs all

module _ (counts more : Counts) (grows : IsMore counts more) where
  element-more : (it : Element) → IsElementIn counts it → IsElementIn more it
  element-more it is = record {
    parent = some-below grows.elements (it.parent) is.parent;
    children = all-below (λ n. n) grows.elements (it.children) is.children;
    document = below grows.documents is.document;
    framed = some-below grows.documents (it.framed) is.framed;
  }

  scroll-more : (it : Container) → IsScrollIn counts it → IsScrollIn more it
  scroll-more (InElement n) is = below grows.elements is
  scroll-more (InDocument document) is = below grows.documents is

  document-more : (it : Document) → IsDocumentIn counts it → IsDocumentIn more it
  document-more it is = record { frame = some-below grows.elements (it.frame) is.frame; root = some-below grows.elements (it.root) is.root }

  thing-more : (it : Thing) → IsThingIn counts it → IsThingIn more it
  thing-more (DocumentThing document) is = below grows.documents is
  thing-more (ElementThing n) is = below grows.elements is
  thing-more (ResizeObserverThing observer) is = below grows.resize_observers is
  thing-more (IntersectionObserverThing observer) is = below grows.intersection_observers is
  thing-more (QueryListThing query) is = below grows.queries is

  resize-more : (it : ResizeObserver) → IsResizeObserverIn counts it → IsResizeObserverIn more it
  resize-more it is = record {
    document = below grows.documents is.document;
    handler = some-below grows.handlers (it.handler) is.handler;
    targets = all-below (λ (each : Observation). each.target) grows.elements (it.targets) is.targets;
    active = all-below (λ (each : Observation). each.target) grows.elements (it.active) is.active;
    skipped = all-below (λ (each : Observation). each.target) grows.elements (it.skipped) is.skipped;
  }

  pub root-more : (it : Root) → IsRootIn counts it → IsRootIn more it
  root-more ImplicitRoot is = tt
  root-more (DocumentRoot document) is = below grows.documents is
  root-more (ElementRoot n) is = below grows.elements is

  intersection-more : (it : IntersectionObserver) → IsIntersectionObserverIn counts it → IsIntersectionObserverIn more it
  intersection-more it is = record {
    document = below grows.documents is.document;
    handler = some-below grows.handlers (it.handler) is.handler;
    root = root-more (it.root) is.root;
    registrations = all-below (λ (each : Registration). each.target) grows.elements (it.registrations) is.registrations;
    queue = all-below (λ (each : Entry). each.target) grows.elements (it.queue) is.queue;
  }

  event-target-more : (it : EventTarget) → IsEventTargetIn counts it → IsEventTargetIn more it
  event-target-more (ElementTarget n) is = below grows.elements is
  event-target-more (DocumentTarget document) is = below grows.documents is
  event-target-more (WindowTarget document) is = below grows.documents is
  event-target-more (QueryTarget query) is = below grows.queries is

  task-more : (it : Task) → IsTaskIn counts it → IsTaskIn more it
  task-more (Notify document) is = below grows.documents is
  task-more (Posted document handler) is = (below grows.documents (is.0), below grows.handlers (is.1))

  pub within-more : (world : World) → IsWithin counts world → IsWithin more world
  within-more world is = record {
    top = below grows.documents is.top;
    tree = record {
      elements = all-map (IsElementIn counts) (IsElementIn more) element-more (world.tree.elements) is.tree.elements;
      documents = all-map (IsDocumentIn counts) (IsDocumentIn more) document-more (world.tree.documents) is.tree.documents;
    };
    noted = at-most grows.documents is.noted;
    scrolls = record {
      elements = at-most grows.elements is.scrolls.elements;
      documents = at-most grows.documents is.scrolls.documents;
      listed = at-most grows.documents is.scrolls.listed;
      pending =
          all-map (AllByRecursion (IsScrollIn counts)) (AllByRecursion (IsScrollIn more)) (all-map (IsScrollIn counts) (IsScrollIn more) scroll-more)
          (world.scrolls.pending) is.scrolls.pending;
    };
    scroll_margins = at-most grows.intersection_observers is.scroll_margins;
    notifying = at-most grows.documents is.notifying;
    names = all-map (λ (named : Name). IsThingIn counts named.thing) (λ named. IsThingIn more named.thing) (λ named. thing-more (named.thing))
        (world.names) is.names;
    resize_observers = all-map (IsResizeObserverIn counts) (IsResizeObserverIn more) resize-more (world.resize_observers.made) is.resize_observers;
    intersection_observers =
        all-map (IsIntersectionObserverIn counts) (IsIntersectionObserverIn more) intersection-more
        (world.intersection_observers.made) is.intersection_observers;
    queries = all-below (λ (list : QueryList). list.document) grows.documents (world.queries) is.queries;
    listeners =
        all-map (IsListenerIn counts) (IsListenerIn more) (λ it given. (event-target-more (it.target) (given.0), below grows.handlers (given.1)))
        (world.listeners.held) is.listeners;
    frame_callbacks =
        all-map (IsFrameCallbackIn counts) (IsFrameCallbackIn more) (λ it given. (below grows.documents (given.0), below grows.handlers (given.1)))
        (world.frame_callbacks.held) is.frame_callbacks;
    timers = all-map (IsTimerIn counts) (IsTimerIn more) (λ it given. (below grows.documents (given.0), below grows.handlers (given.1)))
        (world.timers.held) is.timers;
    tasks = all-map (IsTaskIn counts) (IsTaskIn more) task-more (world.tasks) is.tasks;
  }

-- parts of a world

pub with-tree : (counts : Counts) (world : World) (tree : Tree) → IsWithin counts world → IsTreeIn counts tree → IsWithin counts (record world { tree = tree })
with-tree counts world tree within is = search

pub with-names : (counts : Counts) (world : World) (names : List Name) → IsWithin counts world →
    AllByRecursion (λ (named : Name). IsThingIn counts named.thing) names → IsWithin counts (record world { names = names })
with-names counts world names within all = search

pub with-scrolls : (counts : Counts) (world : World) (scrolls : Scrolls) → IsWithin counts world → AreScrollsIn counts scrolls →
    IsWithin counts (record world { scrolls = scrolls })
with-scrolls counts world scrolls within are = search

pub with-resize : (counts : Counts) (world : World) (it : ResizeObservers) → IsWithin counts world → AllByRecursion (IsResizeObserverIn counts) it.made →
    IsWithin counts (record world { resize_observers = it })
with-resize counts world it within all = search

pub with-intersection : (counts : Counts) (world : World) (it : IntersectionObservers) → IsWithin counts world →
    AllByRecursion (IsIntersectionObserverIn counts) it.made → IsWithin counts (record world { intersection_observers = it })
with-intersection counts world it within all = search

pub with-margins : (counts : Counts) (world : World) (margins : List Margins) → IsWithin counts world → length margins ≤ counts.intersection_observers →
    IsWithin counts (record world { scroll_margins = margins })
with-margins counts world margins within fits = search

pub with-queries : (counts : Counts) (world : World) (queries : List QueryList) → IsWithin counts world →
    AllByRecursion (λ (list : QueryList). list.document < counts.documents) queries → IsWithin counts (record world { queries = queries })
with-queries counts world queries within all = search

pub tree-in : (handlers : ℕ) (world : World) (after : Tree) → length after.elements ≡ length world.tree.elements →
    length after.documents ≡ length world.tree.documents → IsTreeIn (counts_of handlers world) after → IsInRange handlers world →
    IsInRange handlers (record world { tree = after })
tree-in handlers world after elements documents is within =
    let counts : Counts = counts_of handlers world in
    within-more counts (counts_of handlers (record world { tree = after }))
    (grind arith)
    (record world { tree = after })
    (with-tree counts world after within is)

pub resize-in : (handlers : ℕ) (world : World) (after : ResizeObservers) →
    IsKept (IsResizeObserverIn (counts_of handlers world)) world.resize_observers.made after.made → IsInRange handlers world →
    IsInRange handlers (record world { resize_observers = after })
resize-in handlers world after kept within =
    let counts : Counts = counts_of handlers world in
    let made : length after.made ≡ length world.resize_observers.made = kept.same in
    within-more counts (counts_of handlers (record world { resize_observers = after }))
    (grind arith)
    (record world { resize_observers = after })
    (with-resize counts world after within (kept.within within.resize_observers))

pub intersection-in : (handlers : ℕ) (world : World) (after : IntersectionObservers) →
    IsKept (IsIntersectionObserverIn (counts_of handlers world)) world.intersection_observers.made after.made → IsInRange handlers world →
    IsInRange handlers (record world { intersection_observers = after })
intersection-in handlers world after kept within =
    let counts : Counts = counts_of handlers world in
    let made : length after.made ≡ length world.intersection_observers.made = kept.same in
    within-more counts (counts_of handlers (record world { intersection_observers = after }))
    (grind arith)
    (record world { intersection_observers = after })
    (with-intersection counts world after within (kept.within within.intersection_observers))

pub queries-in : (handlers : ℕ) (world : World) (after : List QueryList) →
    IsKept (λ (list : QueryList). list.document < length world.tree.documents) world.queries after → IsInRange handlers world →
    IsInRange handlers (record world { queries = after })
queries-in handlers world after kept within =
    let counts : Counts = counts_of handlers world in
    let made : length after ≡ length world.queries = kept.same in
    within-more counts (counts_of handlers (record world { queries = after }))
    (grind arith)
    (record world { queries = after })
    (with-queries counts world after within (kept.within within.queries))
