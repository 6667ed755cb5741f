-- What a command changes: one part of the world, or one part and the names, and for a new intersection observer its scroll margins; and
-- what is then known about its operands. `Known` is what holds for the things that they refer to.
use Rattle.std.specs.Prelude.{◌≡◌, ℕ, ℤ, ◌<◌, Bool, List, length, Option, Some, None, IfSome, ⊤}
use Rattle.px_units.specs.declared.BoxKind.{BoxKind}
use Rattle.layout_model.specs.Items.{Item, Kind}
use Rattle.text_io.specs.Limits.{limit_number}
use Rattle.text_io.specs.declared.kinds.LimitKind.TheVariants as limits
use Rattle.script_model.specs.Margins.{Margins}
use Rattle.script_model.specs.Queries.{MediaQuery}
use Rattle.page_model.specs.World.{Screen, Container, Thing, DocumentThing, ElementThing, ResizeObserverThing, IntersectionObserverThing, QueryListThing, ResizeObservers, Root, ImplicitRoot, DocumentRoot, ElementRoot, IntersectionObservers, EventTarget, ElementTarget, DocumentTarget, WindowTarget, QueryTarget, Listener, FrameCallback, Timer, Posted, Table, Tree, World, InElement, InDocument}
use Rattle.page_model.specs.Lookups.{entered, kept, put_at, no_margins}
use Rattle.page_model.specs.Names.{with_name}
use Rattle.page_model.specs.Documents.{removed}
use Rattle.page_model.specs.Edits.{change_item, with_element, with_frame}
use Rattle.page_model.specs.ResizeObserving.{with_resize_observer, with_resize_target, without_resize_target, without_resize_targets}
use Rattle.page_model.specs.IntersectionObserving.{with_intersection_observer, with_registration, without_registration, without_registrations, without_queue}
use Rattle.page_model.specs.QueryLists.{with_query_list}
use Rattle.page_model.specs.Scrolling.{scrolled_thing, scrolled_to}
use Rattle.page_model.specs.Tasks.{posted_tasks, with_task}
use Rattle.page_model.specs.Steps.{Did}
use Rattle.page_model.specs.Commands.{placing}

-- the things that operands refer to

abbrev pub container_thing : Container → Thing
container_thing (InElement n) = ElementThing n
container_thing (InDocument document) = DocumentThing document

abbrev pub target_thing : EventTarget → Thing
target_thing (ElementTarget n) = ElementThing n
target_thing (DocumentTarget document) = DocumentThing document
target_thing (WindowTarget document) = DocumentThing document
target_thing (QueryTarget query) = QueryListThing query

abbrev pub IsRootOf : (Thing → Type 0) → Root → Type 0
IsRootOf Known ImplicitRoot = ⊤
IsRootOf Known (DocumentRoot document) = Known (DocumentThing document)
IsRootOf Known (ElementRoot n) = Known (ElementThing n)

abbrev pub IsListenerOf : (Thing → Type 0) → ℕ → Listener → Type 0
IsListenerOf Known handlers it = Known (target_thing (it.target)) × it.handler < handlers

abbrev pub IsFrameCallbackOf : (Thing → Type 0) → ℕ → FrameCallback → Type 0
IsFrameCallbackOf Known handlers it = Known (DocumentThing (it.document)) × it.handler < handlers

abbrev pub IsTimerOf : (Thing → Type 0) → ℕ → Timer → Type 0
IsTimerOf Known handlers it = Known (DocumentThing (it.document)) × it.handler < handlers

-- nothing is required of them
abbrev pub AnyThing : Thing → Type 0
AnyThing thing = ⊤

-- parts of a world

pub data TreeChange (Known : Thing → Type 0) (before : Tree) : Tree → Type 0 where
  ItemChanged : (change : Item → Item) (n : ℕ) → Known (ElementThing n) → TreeChange Known before (change_item change n before)
  TakenOut : (n : ℕ) → Known (ElementThing n) → TreeChange Known before (removed before n)
  Placed : (container : Container) (n : ℕ) (sibling : Option ℕ) (after : Tree) → Known (container_thing container) → Known (ElementThing n) →
      placing container n sibling before ≡ Did after → TreeChange Known before after

pub data ResizeChange (Known : Thing → Type 0) (before : ResizeObservers) : ResizeObservers → Type 0 where
  Observed : (observer n : ℕ) (observed : BoxKind) → Known (ElementThing n) → ResizeChange Known before (with_resize_target observer n observed before)
  Unobserved : (observer n : ℕ) → ResizeChange Known before (without_resize_target observer n before)
  Disconnected : (observer : ℕ) → ResizeChange Known before (without_resize_targets observer before)

pub data IntersectionChange (Known : Thing → Type 0) (before : IntersectionObservers) : IntersectionObservers → Type 0 where
  Registered : (observer n : ℕ) → Known (ElementThing n) → IntersectionChange Known before (with_registration observer n before)
  Unregistered : (observer n : ℕ) → IntersectionChange Known before (without_registration observer n before)
  AllUnregistered : (observer : ℕ) → IntersectionChange Known before (without_registrations observer before)
  QueueTaken : (observer : ℕ) → IntersectionChange Known before (without_queue observer before)

-- a table with one more entry, for which `Holds` is true, or with only the entries that pass a test
pub data TableChange (A : Type 0) (Holds : A → Type 0) (before : Table A) : Table A → Type 0 where
  Entered : (make : ℕ → A) → Holds (make (before.given)) → TableChange A Holds before (entered make before)
  Kept : (test : A → Bool) → TableChange A Holds before (kept test before)

-- the whole

pub data Change (Known : Thing → Type 0) (handlers : ℕ) (world : World) : World → Type 0 where
  Unchanged : Change Known handlers world world
  ScreenSet : (screen : Screen) → Change Known handlers world (record world { viewports = record (world.viewports) { screen = screen } })
  TreeChanged : (tree : Tree) → TreeChange Known (world.tree) tree → Change Known handlers world (record world { tree = tree })
  ElementMade : (name : List ℕ) (kind : Kind) (document : ℕ) → Known (DocumentThing document) → Change Known handlers world (record world {
    names = with_name name (ElementThing (length world.tree.elements)) (world.names);
    tree = with_element kind document None (world.tree);
  })
  FrameMade : (name inside : List ℕ) (document : ℕ) → Known (DocumentThing document) →
      length world.tree.documents < limit_number (world.version) limits.Documents → Change Known handlers world (record world {
        names = with_name inside (DocumentThing (length world.tree.documents)) (with_name name (ElementThing (length world.tree.elements)) (world.names));
        tree = with_frame document (world.tree);
      })
  Scrolled : (left top : ℤ) (container : Container) (target : Container) → Known (container_thing container) →
      scrolled_thing (world.tree) (world.viewports.screen) container ≡ Some target → Change Known handlers world (scrolled_to left top (Some target) world)
  ResizeObserverMade : (name : List ℕ) (document : ℕ) (handler : Option ℕ) → Known (DocumentThing document) → IfSome handler (λ called. called < handlers) →
      length world.resize_observers.made < limit_number (world.version) limits.ResizeObservers → Change Known handlers world (record world {
        names = with_name name (ResizeObserverThing (length world.resize_observers.made)) (world.names);
        resize_observers = with_resize_observer document handler (world.resize_observers);
      })
  ResizeChanged : (it : ResizeObservers) → ResizeChange Known (world.resize_observers) it → Change Known handlers world (record world { resize_observers = it })
  IntersectionObserverMade : (name : List ℕ) (document : ℕ) (handler : Option ℕ) (root : Root) (margins scroll_margins : Margins) (thresholds : List ℕ) →
      Known (DocumentThing document) → IfSome handler (λ called. called < handlers) → IsRootOf Known root → Change Known handlers world (record world {
        names = with_name name (IntersectionObserverThing (length world.intersection_observers.made)) (world.names);
        intersection_observers = with_intersection_observer document handler root margins thresholds (world.intersection_observers);
        scroll_margins = put_at no_margins (length world.intersection_observers.made) scroll_margins (world.scroll_margins);
      })
  IntersectionsChanged : (it : IntersectionObservers) → IntersectionChange Known (world.intersection_observers) it →
      Change Known handlers world (record world { intersection_observers = it })
  QueryListMade : (name : List ℕ) (document : ℕ) (query : List MediaQuery) (matched : Bool) → Known (DocumentThing document) →
      length world.queries < limit_number (world.version) limits.Queries → Change Known handlers world (record world {
        names = with_name name (QueryListThing (length world.queries)) (world.names);
        queries = with_query_list document query matched (world.queries);
      })
  ListenersChanged : (it : Table Listener) → TableChange Listener (IsListenerOf Known handlers) (world.listeners) it →
      Change Known handlers world (record world { listeners = it })
  FrameCallbacksChanged : (it : Table FrameCallback) → TableChange FrameCallback (IsFrameCallbackOf Known handlers) (world.frame_callbacks) it →
      Change Known handlers world (record world { frame_callbacks = it })
  TimersChanged : (it : Table Timer) → TableChange Timer (IsTimerOf Known handlers) (world.timers) it →
      Change Known handlers world (record world { timers = it })
  TaskPosted : (document handler : ℕ) → Known (DocumentThing document) → handler < handlers →
      posted_tasks (world.tasks) < limit_number (world.version) limits.Tasks →
      Change Known handlers world (record world { tasks = with_task (Posted document handler) (world.tasks) })
