-- What each command does (this project's own commands, over the steps of DOM, CSSOM, CSSOM View, HTML, Resize Observer and
-- Intersection Observer). First the operands are looked up, from left to right, then the exceptions of the command are checked, then
-- its limits. A command that throws or meets a limit changes nothing.
use Rattle.std.specs.Prelude.{ℕ, ℤ, suc, unwrap_or, Bool, true, false, not, nat_lt, nat_le, ◌+◌, Option, Some, None, List, [], ◌∷◌, length, is_some}
use Rattle.px_units.specs.declared.BoxKind.TheVariants.{Border}
use Rattle.layout_model.specs.Items.{Kind, BlockKind, ImageKind}
use Rattle.text_io.specs.declared.kinds.EventKind.{EventKind}
use Rattle.text_io.specs.declared.kinds.Version.{Version}
use Rattle.text_io.specs.declared.kinds.ThrowKind.TheVariants.{HierarchyRequestError, NotFoundError, RangeError, ReferenceError, SyntaxError, TypeError}
use Rattle.text_io.specs.declared.kinds.LimitKind.TheVariants as limits
use Rattle.script_model.specs.Syntax.{Dimension, Action, Viewport, SetRatio, MakeBlock, MakeImage, MakeFrame, Append, Before, Remove, SetStyle, Grow, Load, MakeResizeObserver, ObserveResize, UnobserveResize, DisconnectResize, MakeIntersectionObserver, ObserveIntersection, UnobserveIntersection, DisconnectIntersection, TakeIntersections, Listen, Unlisten, MakeQueryList, ScrollTo, ScrollBy, RequestFrame, CancelFrame, SetTimer, ClearTimer, Post, Say, Read, Test, Wider, Taller, Matches, Attached, Seen, Condition}
use Rattle.script_model.specs.TraceLines.{TakeLine, SayLine}
use Rattle.script_model.specs.Queries.{MediaQuery}
use Rattle.page_model.specs.World.{Extent, Entry, EventTarget, Posted, ElementThing, DocumentThing, ResizeObserverThing, IntersectionObserverThing, QueryListThing, Listener, IntersectionObservers, Table, Tree, World, Container, InElement, InDocument}
use Rattle.page_model.specs.Lookups.{no_margins, put_at, element_at, document_at, resize_observer_at, intersection_observer_at, query_list_at, is_same_container}
use Rattle.page_model.specs.Names.{with_name, intersection_observer_text}
use Rattle.page_model.specs.Documents.{container_of, is_inclusive_ancestor, element_depth, levels_of, removed, inserted}
use Rattle.text_io.specs.Limits.{common_limit}
use Rattle.script_model.specs.Media.{matches}
use Rattle.script_model.specs.MarginText.{margins_of, thresholds_of}
use Rattle.page_model.specs.Steps.{Step, Did, Threw, ◌>>=◌, ◌>>◌, Effect, becomes, writes, required, throw_if, met_unless, room, room_unless}
use Rattle.page_model.specs.Operands.{Present, NoEntry, ResizeEntry, IntersectionEntry, Handlers, new_name, other_new_name, document_named, resize_observer_named, intersection_observer_named, query_list_named, element_meant, container_meant, event_target_meant, root_meant, handler_named, handler_given}
use Rattle.page_model.specs.PageBoxes.{viewport_of, size_of, place_of, is_scroller, scroll_range, scroll_offset}
use Rattle.page_model.specs.EntryLines.{intersection_lines}
use Rattle.page_model.specs.Edits.{with_element, with_frame, with_declaration, pixels_of, dimension_of, set_dimension, grown, is_image, with_natural_size}
use Rattle.page_model.specs.Viewports.{with_size, with_ratio}
use Rattle.page_model.specs.ResizeObserving.{with_resize_observer, is_observed, resize_observations, with_resize_target, without_resize_target, without_resize_targets}
use Rattle.page_model.specs.IntersectionObserving.{with_intersection_observer, is_registered, intersection_observations, with_registration, without_registration, without_registrations, without_queue}
use Rattle.page_model.specs.QueryLists.{with_query_list}
use Rattle.page_model.specs.Listeners.{is_listening, with_listener, without_listener}
use Rattle.page_model.specs.FrameCallbacks.{is_frame_requested, with_frame_callback, without_frame_callback}
use Rattle.page_model.specs.Timers.{is_timer_set, with_timer, without_timer}
use Rattle.page_model.specs.Tasks.{posted_tasks, with_task}
use Rattle.page_model.specs.Scrolling.{scrolled_thing, scrolled_to, scrolled_by}
use Rattle.page_model.specs.Readings.{reading_of}

-- whether an element is an inclusive ancestor of the parent that it is inserted into (DOM, 4.2.3: ensure pre-insert validity, step 2)
abbrev pub would_hold_itself : Tree → Container → ℕ → Bool
would_hold_itself tree (InElement parent) n = is_inclusive_ancestor tree n parent
would_hold_itself tree (InDocument document) n = false

abbrev pub is_container_of : Container → Option Container → Bool
is_container_of container None = false
is_container_of container (Some other) = is_same_container container other

-- whether a sibling is given that isn't a child of the container (step 3)
abbrev pub is_no_child : Tree → Container → Option ℕ → Bool
is_no_child tree container None = false
is_no_child tree container (Some sibling) = not (is_container_of container (container_of tree sibling))

-- whether the container is a document that already has a root element (step 6)
abbrev pub is_full : Tree → Container → Bool
is_full tree (InElement parent) = false
is_full tree (InDocument document) = is_some (document_at tree document).root

abbrev pub container_depth : Tree → Container → ℕ
container_depth tree (InElement parent) = element_depth tree parent
container_depth tree (InDocument document) = 0

-- pre-insert (DOM, 4.2.3): before a sibling, or as the last child
unfoldable pub placing : Container → ℕ → Option ℕ → Tree → Step Tree
unfolding ◌>>=◌ ◌>>◌ is_inclusive_ancestor element_depth levels_of inserted
placing container n sibling tree = do
  throw_if (would_hold_itself tree container n) HierarchyRequestError
  throw_if (is_no_child tree container sibling) NotFoundError
  throw_if (is_full tree container) HierarchyRequestError
  met_unless (nat_le (container_depth tree container + levels_of tree n) (common_limit limits.Depth)) limits.Depth
  Did (inserted tree container n sibling)

-- observe() of an intersection observer: a target that is already observed is left as it is
unfoldable pub observing : Version → ℕ → ℕ → Bool → IntersectionObservers → Step IntersectionObservers
unfolding ◌>>=◌ ◌>>◌
observing version observer n true it = Did it
observing version observer n false it = do
  room version limits.IntersectionObservations (intersection_observations it)
  Did (with_registration observer n it)

-- takeRecords(): the queue is copied and cleared
abbrev pub taking : World → ℕ → List Entry → Step Effect
taking world observer queue =
    writes
    (TakeLine (intersection_observer_text (world.names) observer) (length queue) ∷ intersection_lines (world.names) observer queue)
    (record world { intersection_observers = without_queue observer (world.intersection_observers) })

-- a listener is ignored if the target already has one with the same event and handler (DOM, 2.7)
unfoldable pub listening : Version → EventTarget → EventKind → ℕ → Bool → Table Listener → Step (Table Listener)
unfolding ◌>>=◌ ◌>>◌
listening version target event handler true listeners = Did listeners
listening version target event handler false listeners = do
  room version limits.Listeners (length listeners.held)
  Did (with_listener target event handler listeners)

-- whether a media query list matches a viewport
abbrev pub matches_in : List MediaQuery → Extent → Bool
matches_in query viewport = matches query viewport.across viewport.down

-- whether a media query list matches the viewport of a document now
unfoldable pub matches_now : World → ℕ → List MediaQuery → Bool
unfolding viewport_of matches
matches_now world document query = matches_in query (viewport_of (world.tree) (world.viewports.screen) document)

-- a step that changes one part, lifted to the world
unfoldable pub with_tree : World → Step Tree → Step Effect
unfolding ◌>>=◌
with_tree world step = step >>= λ (it : Tree). becomes (record world { tree = it })

unfoldable pub with_intersections : World → Step IntersectionObservers → Step Effect
unfolding ◌>>=◌
with_intersections world step = step >>= λ (it : IntersectionObservers). becomes (record world { intersection_observers = it })

unfoldable pub with_listeners : World → Step (Table Listener) → Step Effect
unfolding ◌>>=◌
with_listeners world step = step >>= λ (it : Table Listener). becomes (record world { listeners = it })

-- makes a block or an image
unfoldable pub making : World → List ℕ → List ℕ → Kind → Step Effect
unfolding ◌>>=◌ ◌>>◌
making world name document kind = do
  new_name (world.names) name
  made_in ← document_named (world.names) document
  room (world.version) limits.Nodes (length world.tree.elements)
  becomes (record world {
    names = with_name name (ElementThing (length world.tree.elements)) (world.names);
    tree = with_element kind made_in None (world.tree);
  })

-- increases or decreases a width or height that is set in pixels
unfoldable pub growing : Dimension → ℕ → ℤ → Tree → Step Tree
unfolding ◌>>=◌
growing dimension n by tree = do
  units ← required TypeError (pixels_of (dimension_of dimension (element_at tree n).item.style))
  Did (with_declaration (set_dimension dimension (grown units by)) n tree)

-- sets an image's natural size
unfoldable pub loading : ℕ → ℕ → ℕ → Tree → Step Tree
unfolding ◌>>◌
loading n width height tree = do
  throw_if (not (is_image (element_at tree n).item.kind)) TypeError
  Did (with_natural_size width height n tree)

-- the commands that have no block: for each its operands, its exceptions, its limits, and its effect on the world
unfoldable pub does : Handlers → World → Present → Action → Step Effect
unfolding ◌>>=◌ ◌>>◌ with_tree with_intersections with_listeners making growing loading placing observing listening margins_of thresholds_of removed matches_now intersection_lines is_scroller scroll_range scroll_offset viewport_of size_of place_of
does handlers world present (Viewport width height) = becomes (record world { viewports = with_size width height (world.viewports) })
does handlers world present (SetRatio hundredths) = becomes (record world { viewports = with_ratio hundredths (world.viewports) })
does handlers world present (MakeBlock name document) = making world name document BlockKind
does handlers world present (MakeImage name document width height) = making world name document (ImageKind width height)
does handlers world present (MakeFrame name document inside) = do
  new_name (world.names) name
  made_in ← document_named (world.names) document
  other_new_name (world.names) name inside
  room (world.version) limits.Nodes (length world.tree.elements)
  room (world.version) limits.Documents (length world.tree.documents)
  becomes (record world {
    names = with_name inside (DocumentThing (length world.tree.documents)) (with_name name (ElementThing (length world.tree.elements)) (world.names));
    tree = with_frame made_in (world.tree);
  })
does handlers world present (Append parent node) = do
  container ← container_meant (world.names) present parent
  n ← element_meant (world.names) present node
  with_tree world (placing container n None (world.tree))
does handlers world present (Before parent node sibling) = do
  container ← container_meant (world.names) present parent
  n ← element_meant (world.names) present node
  s ← element_meant (world.names) present sibling
  with_tree world (placing container n (Some s) (world.tree))
does handlers world present (Remove node) = do
  n ← element_meant (world.names) present node
  becomes (record world { tree = removed (world.tree) n })
does handlers world present (SetStyle node declaration) = do
  n ← element_meant (world.names) present node
  becomes (record world { tree = with_declaration declaration n (world.tree) })
does handlers world present (Grow node dimension by) = do
  n ← element_meant (world.names) present node
  with_tree world (growing dimension n by (world.tree))
does handlers world present (Load node width height) = do
  n ← element_meant (world.names) present node
  with_tree world (loading n width height (world.tree))
does handlers world present (MakeResizeObserver name document handler) = do
  new_name (world.names) name
  owner ← document_named (world.names) document
  called ← handler_given handlers handler
  room (world.version) limits.ResizeObservers (length world.resize_observers.made)
  becomes (record world {
    names = with_name name (ResizeObserverThing (length world.resize_observers.made)) (world.names);
    resize_observers = with_resize_observer owner called (world.resize_observers);
  })
does handlers world present (ObserveResize observer node observed) = do
  o ← resize_observer_named (world.names) observer
  n ← element_meant (world.names) present node
  room_unless (world.version) (is_observed n (resize_observer_at (world.resize_observers) o).targets) limits.ResizeObservations (resize_observations (world.resize_observers))
  becomes (record world { resize_observers = with_resize_target o n observed (world.resize_observers) })
does handlers world present (UnobserveResize observer node) = do
  o ← resize_observer_named (world.names) observer
  n ← element_meant (world.names) present node
  becomes (record world { resize_observers = without_resize_target o n (world.resize_observers) })
does handlers world present (DisconnectResize observer) = do
  o ← resize_observer_named (world.names) observer
  becomes (record world { resize_observers = without_resize_targets o (world.resize_observers) })
does handlers world present (MakeIntersectionObserver making) = do
  new_name (world.names) making.name
  owner ← document_named (world.names) making.document
  called ← handler_given handlers making.handler
  root ← root_meant (world.names) present making.root
  margins ← required SyntaxError (margins_of making.margin)
  scroll_margins ← required SyntaxError (margins_of (unwrap_or making.scroll []))
  thresholds ← required RangeError (thresholds_of making.thresholds)
  room (world.version) limits.IntersectionObservers (length world.intersection_observers.made)
  becomes (record world {
    names = with_name (making.name) (IntersectionObserverThing (length world.intersection_observers.made)) (world.names);
    intersection_observers = with_intersection_observer owner called root margins thresholds (world.intersection_observers);
    scroll_margins = put_at no_margins (length world.intersection_observers.made) scroll_margins (world.scroll_margins);
  })
does handlers world present (ObserveIntersection observer node) = do
  o ← intersection_observer_named (world.names) observer
  n ← element_meant (world.names) present node
  with_intersections world
      (observing (world.version) o n (is_registered n (intersection_observer_at (world.intersection_observers) o).registrations) (world.intersection_observers))
does handlers world present (UnobserveIntersection observer node) = do
  o ← intersection_observer_named (world.names) observer
  n ← element_meant (world.names) present node
  becomes (record world { intersection_observers = without_registration o n (world.intersection_observers) })
does handlers world present (DisconnectIntersection observer) = do
  o ← intersection_observer_named (world.names) observer
  becomes (record world { intersection_observers = without_registrations o (world.intersection_observers) })
does handlers world present (TakeIntersections observer) = do
  o ← intersection_observer_named (world.names) observer
  taking world o (intersection_observer_at (world.intersection_observers) o).queue
does handlers world present (Listen aim event handler) = do
  target ← event_target_meant (world.names) present aim
  called ← handler_named handlers handler
  with_listeners world (listening (world.version) target event called (is_listening target event called (world.listeners)) (world.listeners))
does handlers world present (Unlisten aim event handler) = do
  target ← event_target_meant (world.names) present aim
  called ← handler_named handlers handler
  becomes (record world { listeners = without_listener target event called (world.listeners) })
does handlers world present (MakeQueryList name document query) = do
  new_name (world.names) name
  owner ← document_named (world.names) document
  room (world.version) limits.Queries (length world.queries)
  becomes (record world {
    names = with_name name (QueryListThing (length world.queries)) (world.names);
    queries = with_query_list owner query (matches_now world owner query) (world.queries);
  })
does handlers world present (ScrollTo target left top) = do
  container ← container_meant (world.names) present target
  becomes (scrolled_to left top (scrolled_thing (world.tree) (world.viewports.screen) container) world)
does handlers world present (ScrollBy target left top) = do
  container ← container_meant (world.names) present target
  becomes (scrolled_by left top (scrolled_thing (world.tree) (world.viewports.screen) container) world)
does handlers world present (RequestFrame document key handler) = do
  owner ← document_named (world.names) document
  called ← handler_named handlers handler
  throw_if (is_frame_requested owner key (world.frame_callbacks)) TypeError
  room (world.version) limits.FrameCallbacks (length world.frame_callbacks.held)
  becomes (record world { frame_callbacks = with_frame_callback owner key called (world.frame_callbacks) })
does handlers world present (CancelFrame document key) = do
  owner ← document_named (world.names) document
  becomes (record world { frame_callbacks = without_frame_callback owner key (world.frame_callbacks) })
does handlers world present (SetTimer document key delay handler) = do
  owner ← document_named (world.names) document
  called ← handler_named handlers handler
  throw_if (is_timer_set owner key (world.timers)) TypeError
  room (world.version) limits.Timers (length world.timers.held)
  becomes (record world { timers = with_timer owner key (world.clock + delay) called (world.timers) })
does handlers world present (ClearTimer document key) = do
  owner ← document_named (world.names) document
  becomes (record world { timers = without_timer owner key (world.timers) })
does handlers world present (Post document handler) = do
  owner ← document_named (world.names) document
  called ← handler_named handlers handler
  room (world.version) limits.Tasks (posted_tasks (world.tasks))
  becomes (record world { tasks = with_task (Posted owner called) (world.tasks) })
does handlers world present (Say word) = writes (SayLine word ∷ []) world
does handlers world present (Read target) = do
  container ← container_meant (world.names) present target
  writes (reading_of (world.names) (world.tree) (world.viewports.screen) (world.scrolls) container ∷ []) world

-- whether the current entry, which has to be that of an intersection observer, is intersecting
abbrev pub seen_now : Present → Step Bool
seen_now NoEntry = Threw ReferenceError
seen_now (ResizeEntry target) = Threw TypeError
seen_now (IntersectionEntry target meets) = Did meets

-- the answer to a test, before a `not` is applied
unfoldable pub asked : World → Present → Test → Step Bool
unfolding ◌>>=◌ ◌>>◌ size_of matches_now
asked world present (Wider node units) = do
  n ← element_meant (world.names) present node
  Did (nat_lt units (size_of (world.tree) (world.viewports.screen) n Border).across)
asked world present (Taller node units) = do
  n ← element_meant (world.names) present node
  Did (nat_lt units (size_of (world.tree) (world.viewports.screen) n Border).down)
asked world present (Matches name) = do
  query ← query_list_named (world.names) name
  Did (matches_now world (query_list_at (world.queries) query).document (query_list_at (world.queries) query).query)
asked world present (Attached node) = do
  n ← element_meant (world.names) present node
  Did (is_some (container_of (world.tree) n))
asked world present Seen = seen_now present

abbrev pub turned : Bool → Bool → Bool
turned true answer = not answer
turned false answer = answer

-- whether a condition holds
unfoldable pub holds : World → Present → Condition → Step Bool
unfolding ◌>>=◌ ◌>>◌ asked
holds world present condition = do
  answer ← asked world present (condition.asks)
  Did (turned (condition.negated) answer)

-- counts a command that begins; meets the limit if there is no room for one more
unfoldable pub begun_in : World → Step World
unfolding ◌>>=◌ ◌>>◌
begun_in world = do
  room (world.version) limits.Commands world.begun
  Did (record world { begun = suc world.begun })
