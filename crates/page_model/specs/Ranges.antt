-- Each number in a world is the number of something that exists, so no lookup ever returns a default; and nothing is stored beyond
-- what exists, so what is created later begins unscrolled, with no size noted and no notify task queued.
use Rattle.std.specs.Prelude.{ℕ, ◌<◌, ◌≤◌, List, length, IfSome, ⊤}
use Rattle.std.specs.List.{AllByRecursion}
use Rattle.page_model.specs.World.{Element, Document, Tree, Scrolls, Container, InElement, InDocument, Thing, DocumentThing, ElementThing, ResizeObserverThing, IntersectionObserverThing, QueryListThing, Observation, ResizeObserver, Root, ImplicitRoot, DocumentRoot, ElementRoot, Registration, Entry, IntersectionObserver, EventTarget, ElementTarget, DocumentTarget, WindowTarget, QueryTarget, Listener, FrameCallback, Timer, Task, Notify, Posted, World}
use Rattle.page_model.specs.Operands.{Present, NoEntry, ResizeEntry, IntersectionEntry}

-- how many things of each kind exist
pub record Counts : Type 0 where
  pub elements : ℕ
  pub documents : ℕ
  pub resize_observers : ℕ
  pub intersection_observers : ℕ
  pub queries : ℕ
  pub handlers : ℕ

abbrev pub counts_of : ℕ → World → Counts
counts_of handlers world = record {
  elements = length world.tree.elements;
  documents = length world.tree.documents;
  resize_observers = length world.resize_observers.made;
  intersection_observers = length world.intersection_observers.made;
  queries = length world.queries;
  handlers = handlers;
}

pub record IsElementIn (counts : Counts) (it : Element) : Type 0 where
  pub parent : IfSome it.parent (λ n. n < counts.elements)
  pub children : AllByRecursion (λ n. n < counts.elements) it.children
  pub document : it.document < counts.documents
  pub framed : IfSome it.framed (λ document. document < counts.documents)

abbrev pub IsScrollIn : Counts → Container → Type 0
IsScrollIn counts (InElement n) = n < counts.elements
IsScrollIn counts (InDocument document) = document < counts.documents

pub record IsDocumentIn (counts : Counts) (it : Document) : Type 0 where
  pub frame : IfSome it.frame (λ n. n < counts.elements)
  pub root : IfSome it.root (λ n. n < counts.elements)

pub record IsTreeIn (counts : Counts) (it : Tree) : Type 0 where
  pub elements : AllByRecursion (IsElementIn counts) it.elements
  pub documents : AllByRecursion (IsDocumentIn counts) it.documents

pub record AreScrollsIn (counts : Counts) (it : Scrolls) : Type 0 where
  pub elements : length it.elements ≤ counts.elements
  pub documents : length it.documents ≤ counts.documents
  pub listed : length it.pending ≤ counts.documents
  pub pending : AllByRecursion (AllByRecursion (IsScrollIn counts)) it.pending

abbrev pub IsThingIn : Counts → Thing → Type 0
IsThingIn counts (DocumentThing document) = document < counts.documents
IsThingIn counts (ElementThing n) = n < counts.elements
IsThingIn counts (ResizeObserverThing observer) = observer < counts.resize_observers
IsThingIn counts (IntersectionObserverThing observer) = observer < counts.intersection_observers
IsThingIn counts (QueryListThing query) = query < counts.queries

abbrev pub AreObserved : Counts → List Observation → Type 0
AreObserved counts observations = AllByRecursion (λ each. each.target < counts.elements) observations

pub record IsResizeObserverIn (counts : Counts) (it : ResizeObserver) : Type 0 where
  pub document : it.document < counts.documents
  pub handler : IfSome it.handler (λ handler. handler < counts.handlers)
  pub targets : AreObserved counts it.targets
  pub active : AreObserved counts it.active
  pub skipped : AreObserved counts it.skipped

abbrev pub IsRootIn : Counts → Root → Type 0
IsRootIn counts ImplicitRoot = ⊤
IsRootIn counts (DocumentRoot document) = document < counts.documents
IsRootIn counts (ElementRoot n) = n < counts.elements

pub record IsIntersectionObserverIn (counts : Counts) (it : IntersectionObserver) : Type 0 where
  pub document : it.document < counts.documents
  pub handler : IfSome it.handler (λ handler. handler < counts.handlers)
  pub root : IsRootIn counts it.root
  pub registrations : AllByRecursion (λ (each : Registration). each.target < counts.elements) it.registrations
  pub queue : AllByRecursion (λ (each : Entry). each.target < counts.elements) it.queue

abbrev pub IsEventTargetIn : Counts → EventTarget → Type 0
IsEventTargetIn counts (ElementTarget n) = n < counts.elements
IsEventTargetIn counts (DocumentTarget document) = document < counts.documents
IsEventTargetIn counts (WindowTarget document) = document < counts.documents
IsEventTargetIn counts (QueryTarget query) = query < counts.queries

abbrev pub IsListenerIn : Counts → Listener → Type 0
IsListenerIn counts it = IsEventTargetIn counts it.target × it.handler < counts.handlers

abbrev pub IsFrameCallbackIn : Counts → FrameCallback → Type 0
IsFrameCallbackIn counts it = it.document < counts.documents × it.handler < counts.handlers

abbrev pub IsTimerIn : Counts → Timer → Type 0
IsTimerIn counts it = it.document < counts.documents × it.handler < counts.handlers

abbrev pub IsTaskIn : Counts → Task → Type 0
IsTaskIn counts (Notify document) = document < counts.documents
IsTaskIn counts (Posted document handler) = document < counts.documents × handler < counts.handlers

-- all numbers in the parts of a world are below these counts
pub record IsWithin (counts : Counts) (world : World) : Type 0 where
  pub top : 0 < counts.documents
  pub tree : IsTreeIn counts world.tree
  pub names : AllByRecursion (λ named. IsThingIn counts named.thing) world.names
  pub noted : length world.viewports.noted ≤ counts.documents
  pub scrolls : AreScrollsIn counts world.scrolls
  pub resize_observers : AllByRecursion (IsResizeObserverIn counts) world.resize_observers.made
  pub intersection_observers : AllByRecursion (IsIntersectionObserverIn counts) world.intersection_observers.made
  pub scroll_margins : length world.scroll_margins ≤ counts.intersection_observers
  pub notifying : length world.notifying ≤ counts.documents
  pub queries : AllByRecursion (λ list. list.document < counts.documents) world.queries
  pub listeners : AllByRecursion (IsListenerIn counts) world.listeners.held
  pub frame_callbacks : AllByRecursion (IsFrameCallbackIn counts) world.frame_callbacks.held
  pub timers : AllByRecursion (IsTimerIn counts) world.timers.held
  pub tasks : AllByRecursion (IsTaskIn counts) world.tasks

abbrev pub IsInRange : ℕ → World → Type 0
IsInRange handlers world = IsWithin (counts_of handlers world) world

-- the target of the current entry is an existing element
abbrev pub IsPresentIn : World → Present → Type 0
IsPresentIn world NoEntry = ⊤
IsPresentIn world (ResizeEntry target) = target < length world.tree.elements
IsPresentIn world (IntersectionEntry target meets) = target < length world.tree.elements
