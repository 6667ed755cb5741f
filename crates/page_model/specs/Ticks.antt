-- A tick: the timers that are due, one update of the rendering, and the queued tasks (HTML, event loops: update the rendering). The
-- order of the three, and that no update is skipped, are this project's own.
use Rattle.std.specs.Prelude.{ℕ, Bool, cond, not, ◌==◌, ◌&&◌, nat_lt, List, [], ◌∷◌, length, Some}
use Rattle.text_io.specs.declared.kinds.EventKind.TheVariants as events
use Rattle.text_io.specs.declared.kinds.ThrowKind.TheVariants.{RangeError}
use Rattle.script_model.specs.TraceLines.{TraceLine, TickLine, TimerLine, FrameLine, TaskLine, FiredResize, FiredScroll, FiredChange}
use Rattle.page_model.specs.World.{World, Tree, Container, InElement, InDocument, EventTarget, ElementTarget, DocumentTarget, WindowTarget, QueryTarget, FrameCallback, Timer, Task, Notify, Posted}
use Rattle.page_model.specs.Lookups.{query_list_at}
use Rattle.page_model.specs.Documents.{is_active, active_documents}
use Rattle.page_model.specs.Names.{container_text, document_text, query_list_text}
use Rattle.page_model.specs.PageBoxes.{viewport_of}
use Rattle.page_model.specs.Viewports.{differs_from, noted_size, with_noted}
use Rattle.page_model.specs.Scrolls.{pending_of, without_pending}
use Rattle.page_model.specs.QueryLists.{with_state}
use Rattle.page_model.specs.FrameCallbacks.{frame_callbacks_of, frame_callback_stands, frame_callback_taken}
use Rattle.page_model.specs.Timers.{due_timers, timer_stands, timer_taken}
use Rattle.page_model.specs.Tasks.{has_tasks}
use Rattle.page_model.specs.Commands.{matches_now}
use Rattle.page_model.specs.Steps.{Step, Did, Threw}
use Rattle.page_model.specs.Runs.{Said, silent, say, ◌followed_by◌, for_each, only_if, repeat, by_place, most_steps}
use Rattle.page_model.specs.Callbacks.{Script, NoEntries, call, fire, while_active, handler_text}
use Rattle.page_model.specs.Intersections.{is_same_bool, update_intersections, notify}
use Rattle.page_model.specs.Loop.{resize_loop}

-- timers -------------------------------------------------------------------------------------------------------------------

-- a line that is written only if a document is Active
abbrev pub line_while_active : Tree → ℕ → TraceLine → List TraceLine
line_while_active tree document line = cond (is_active tree document) (line ∷ []) []

-- removes a timer and, if its document is Active, writes its line and invokes its callback
abbrev pub run_timer : Script → Timer → World → Said World
run_timer script timer world =
    say (line_while_active (world.tree) (timer.document) (TimerLine (document_text (world.names) (timer.document)) (timer.key)))
    (record world { timers = timer_taken (timer.serial) (world.timers) })
    followed_by call script (timer.document) (Some (timer.handler)) NoEntries

-- runs the timers that are due when the tick begins, each unless it has been cleared since (HTML, timers)
unfoldable pub run_timers : Script → World → Said World
unfolding for_each call ◌followed_by◌
run_timers script world =
    for_each (λ timer now. only_if (run_timer script timer) now (timer_stands timer (now.timers))) (due_timers (world.clock) (world.timers)) world

-- the parts of an update, for one document ---------------------------------------------------------------------------------

-- the resize steps: the size is noted, and the event is fired if it differs from the size noted before. The first time there is none, so
-- no event is fired (CSSOM View, 13: run the resize steps)
unfoldable pub resize_steps : Script → ℕ → World → Said World
unfolding fire viewport_of
resize_steps script document world =
    let size = viewport_of (world.tree) (world.viewports.screen) document in
    only_if
    (fire script (FiredResize (document_text (world.names) document)) (WindowTarget document) events.Resize)
    (record world { viewports = with_noted document size (world.viewports) })
    (differs_from size (noted_size document (world.viewports)))

abbrev pub event_target_of : Container → EventTarget
event_target_of (InElement element) = ElementTarget element
event_target_of (InDocument document) = DocumentTarget document

-- the scroll steps: the pending list is copied and cleared, and the event is fired at each target in the copy while the document is
-- Active (CSSOM View, 13: run the scroll steps)
unfoldable pub scroll_steps : Script → ℕ → World → Said World
unfolding for_each fire
scroll_steps script document world =
    for_each
    (λ target. while_active document (λ now. fire script (FiredScroll (container_text (now.names) target)) (event_target_of target) events.Scroll now))
    (pending_of document (world.scrolls))
    (record world { scrolls = without_pending document (world.scrolls) })

abbrev pub evaluated : Script → ℕ → Bool → World → Said World
evaluated script query matched world =
    only_if
    (fire script (FiredChange (query_list_text (world.names) query) matched) (QueryTarget query) events.Change)
    (record world { queries = with_state matched query (world.queries) })
    (not (is_same_bool matched (query_list_at (world.queries) query).matched))

abbrev pub evaluate : Script → ℕ → ℕ → World → Said World
evaluate script document query world =
    let it = query_list_at (world.queries) query in
    only_if (λ now. evaluated script query (matches_now now document (it.query)) now) world (it.document == document)

-- evaluate media queries and report changes (CSSOM View, 4.2), by index, since a listener may create query lists
unfoldable pub media_steps : Script → ℕ → World → Said World
unfolding by_place fire matches_now
media_steps script document world =
    by_place (λ now. length (now.queries)) (λ now. is_active (now.tree) document) (evaluate script document) world

-- removes a frame callback, writes its line, and invokes it
abbrev pub run_frame_callback : Script → FrameCallback → World → Said World
run_frame_callback script callback world =
    say (FrameLine (document_text (world.names) (callback.document)) (callback.key) ∷ [])
    (record world { frame_callbacks = frame_callback_taken (callback.serial) (world.frame_callbacks) })
    followed_by call script (callback.document) (Some (callback.handler)) NoEntries

-- run the animation frame callbacks: those requested before this step, each unless it has been cancelled since (HTML, animation frames)
unfoldable pub frame_steps : Script → ℕ → World → Said World
unfolding for_each call ◌followed_by◌
frame_steps script document world =
    for_each
    (λ callback now. only_if (run_frame_callback script callback) now (is_active (now.tree) document && frame_callback_stands callback (now.frame_callbacks)))
    (frame_callbacks_of document (world.frame_callbacks))
    world

abbrev pub intersection_steps : ℕ → World → Said World
intersection_steps document world = silent (update_intersections document world)

-- the parts of an update, in their order
abbrev pub parts_of_update : Script → List (ℕ → World → Said World)
parts_of_update script =
    resize_steps script ∷ scroll_steps script ∷ media_steps script ∷ frame_steps script ∷ resize_loop script ∷ intersection_steps ∷ []

-- update the rendering: each part is run for all documents that were Active when the update began, except those that no longer are when
-- their turn comes
unfoldable pub update_rendering : Script → World → Said World
unfolding for_each active_documents resize_steps scroll_steps media_steps frame_steps resize_loop update_intersections
update_rendering script world =
    for_each
    (λ part. for_each (λ document. while_active document (part document)) (active_documents (world.tree)))
    (parts_of_update script)
    world

-- tasks --------------------------------------------------------------------------------------------------------------------

abbrev pub run_task : Script → Task → World → Said World
run_task script (Notify document) world = notify script document world
run_task script (Posted document handler) world =
    say (line_while_active (world.tree) document (TaskLine (document_text (world.names) document) (handler_text script handler))) world
    followed_by call script document (Some handler) NoEntries

abbrev pub run_first : Script → List Task → World → Said World
run_first script [] world = silent world
run_first script (task ∷ others) world = run_task script task (record world { tasks = others })

-- takes the first task off the queue and runs it, until none is left
unfoldable pub run_tasks : Script → World → Said World
unfolding repeat notify call ◌followed_by◌
run_tasks script world = repeat (λ now. has_tasks (now.tasks)) (λ now. run_first script (now.tasks) now) most_steps world

-- sets the clock, which can't go back
abbrev pub time_set : ℕ → World → Step World
time_set time world = cond (nat_lt time world.clock) (Threw RangeError) (Did (record world { clock = time }))

-- a tick, once its time is set
unfoldable pub tick : Script → World → Said World
unfolding ◌followed_by◌ run_timers update_rendering run_tasks
tick script world =
    say (TickLine (world.clock) ∷ []) world followed_by run_timers script followed_by update_rendering script followed_by run_tasks script
