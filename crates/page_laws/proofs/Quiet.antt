-- In a quiet page no part of a tick says anything, and the page stays quiet.
use Rattle.std.proofs.Common.{◌≡◌, refl, sym, ap, ◌∙◌, subst, eq-eqb}
use Rattle.std.specs.Prelude.{ℕ, zero, suc, ◌&&◌, ◌==◌, Bool, true, false, not, cond, nat_lt, nat_le, List, [], ◌∷◌, map, filter, length, Option, Some, None, slice_get, unwrap_or, ⊤}
use Rattle.std.specs.List.{AllByRecursion, list_any}
use Rattle.std.proofs.lemmas.Bool.{and_right}
use Rattle.text_io.specs.declared.kinds.EventKind.TheVariants as events
use Rattle.script_model.specs.TraceLines.{TraceLine, TickLine, FiredResize, FiredScroll, FiredError}
use Rattle.page_model.specs.World.{World, Document, Extent, Container, Timer, FrameCallback, ResizeObserver, Finding, IntersectionObserver, IntersectionObservers, WindowTarget}
use Rattle.page_model.specs.Lookups.{change_at, put_at, entry_or, document_at, no_document, same_extent}
use Rattle.page_model.specs.Documents.{is_active, is_active_state, active_documents}
use Rattle.page_model.specs.Names.{document_text, container_text}
use Rattle.page_model.specs.PageBoxes.{viewport_of, view_of, framed_size, extent_of}
use Rattle.page_model.specs.Viewports.{differs_from, noted_size, with_noted}
use Rattle.page_model.specs.Scrolls.{pending_of, without_pending}
use Rattle.page_model.specs.FrameCallbacks.{frame_callbacks_of, frame_callback_stands}
use Rattle.page_model.specs.Timers.{by_due_time, due_timers, timer_stands}
use Rattle.page_model.specs.Tasks.{has_tasks, is_notifying}
use Rattle.page_model.specs.Gathering.{sight_of, is_of, gathered_if, is_filled, has_active, has_skipped}
use Rattle.page_model.specs.Runs.{Said, Turn, silent, say, behind, ◌followed_by◌, only_if, lifted, for_each, repeat, by_place, at_place, most_steps}
use Rattle.page_model.specs.Callbacks.{Script, while_active, fire}
use Rattle.page_model.specs.Intersections.{places_from, is_rooted_in, settled_observer, settling, watchers, has_queued, found_now, update_intersections, with_notify_task}
use Rattle.page_model.specs.Loop.{gather, round, report_skipped, resize_loop}
use Rattle.page_model.specs.Ticks.{run_timer, run_timers, resize_steps, event_target_of, scroll_steps, evaluate, media_steps, run_frame_callback, frame_steps, parts_of_update, update_rendering, run_first, run_tasks, tick}
use Rattle.page_laws.specs.Quiet.{IsQuiet}
use Rattle.page_laws.proofs.Later.{all-so}
use Rattle.page_laws.proofs.Places.{repeat-not}

-- nothing is said, and the page is quiet
record IsHushed (said : Said World) : Type 0 where
  world : World
  quiet : IsQuiet world
  is : said ≡ silent world

hushed : (said : Said World) (world : World) → said ≡ silent world → IsQuiet world → IsHushed said
hushed said world is quiet = record { world = world; quiet = quiet; is = is }

stays : (world : World) → IsQuiet world → IsHushed (silent world)
stays world quiet = hushed (silent world) world refl quiet

after-hushed : (rest : World → Said World) (said : Said World) → ((world : World) → IsQuiet world → IsHushed (rest world)) → IsHushed said →
    IsHushed (said followed_by rest)
unfolding ◌followed_by◌
after-hushed rest said each here = subst (λ it. IsHushed (it followed_by rest)) (sym (here.is)) (each (here.world) (here.quiet))

all-hushed : {A : Type 0} (In : A → Type 0) (step : A → World → Said World) (items : List A) → AllByRecursion In items →
    ((item : A) → In item → (world : World) → IsQuiet world → IsHushed (step item world)) → (world : World) → IsQuiet world → IsHushed (for_each step items world)
unfolding for_each
all-hushed In step [] all each world quiet = stays world quiet
all-hushed In step (item ∷ others) all each world quiet =
    after-hushed (for_each step others) (step item world) (all-hushed In step others (all.1) each) (each item (all.0) world quiet)

for_each-none : {A : Type 0} (step : A → World → Said World) (items : List A) (world : World) → items ≡ [] → IsQuiet world →
    IsHushed (for_each step items world)
unfolding for_each
for_each-none step items world none quiet = hushed _ world (ap (λ these. for_each step these world) none) quiet

only_if-not : (step : World → Said World) (world : World) (test : Bool) → test ≡ false → IsQuiet world → IsHushed (only_if step world test)
only_if-not step world test fails quiet = hushed _ world (ap (only_if step world) fails) quiet

-- documents: the only one is the top document

at-top : (world : World) (quiet : IsQuiet world) → document_at (world.tree) 0 ≡ quiet.top
at-top world quiet = ap (λ documents. unwrap_or (slice_get documents 0) no_document) (quiet.alone)

others-inactive : (world : World) → IsQuiet world → (n : ℕ) → is_active (world.tree) (suc n) ≡ false
others-inactive world quiet n = ap (λ documents. is_active_state (unwrap_or (slice_get documents (suc n)) no_document).state) (quiet.alone)

own-viewport : (world : World) → IsQuiet world → viewport_of (world.tree) (world.viewports.screen) 0 ≡ world.viewports.screen.size
unfolding viewport_of
own-viewport world quiet =
    ap (λ frame. extent_of (unwrap_or (framed_size (world.tree) (world.viewports.screen) (view_of (world.tree) (world.viewports.screen)) frame) (0, 0)))
    (ap (λ (it : Document). it.frame) (at-top world quiet) ∙ quiet.frame)

active-hushed : (document : ℕ) (part : ℕ → World → Said World) → ((world : World) → IsQuiet world → IsHushed (part 0 world)) → (world : World) →
    IsQuiet world → IsHushed (while_active document (part document) world)
active-hushed zero part each world quiet = by_test (is_active (world.tree) 0)
  where
    by_test : (test : Bool) → IsHushed (only_if (part 0) world test)
    by_test true = each world quiet
    by_test false = stays world quiet
active-hushed (suc n) part each world quiet = only_if-not (part (suc n)) world (is_active (world.tree) (suc n)) (others-inactive world quiet n) quiet

same-number : (n : ℕ) → (n == n) ≡ true
same-number n = eq-eqb n n refl

same-size : (size : Extent) → same_extent size size ≡ true
same-size size = subst (λ b. cond b (size.down == size.down) false ≡ true) (sym (same-number (size.across))) (same-number (size.down))

-- changes of parts of a quiet page
quiet-after : (world after : World) → IsQuiet world →
    after ≡ record after {
      tree = world.tree;
      queries = world.queries;
      frame_callbacks = world.frame_callbacks;
      timers = world.timers;
      tasks = world.tasks;
    } → pending_of 0 (after.scrolls) ≡ [] → differs_from (after.viewports.screen.size) (noted_size 0 (after.viewports)) ≡ false →
    after.resize_observers.made ≡ [] → after.intersection_observers.made ≡ [] → IsQuiet after
quiet-after world after quiet same pending noted observers watchers = subst IsQuiet (sym same) (record {
  top = quiet.top;
  alone = quiet.alone;
  frame = quiet.frame;
  pending = pending;
  noted = noted;
  resize_observers = observers;
  intersection_observers = watchers;
  queries = quiet.queries;
  frame_callbacks = quiet.frame_callbacks;
  timers = quiet.timers;
  tasks = quiet.tasks;
})

put-first : (value : Option Extent) (noted : List (Option Extent)) → entry_or None (put_at None 0 value noted) 0 ≡ value
put-first value [] = refl
put-first value (x ∷ xs) = refl

noted-quiet : (world : World) (size : Extent) → size ≡ world.viewports.screen.size → IsQuiet world →
    IsQuiet (record world { viewports = with_noted 0 size (world.viewports) })
noted-quiet world size is quiet =
    quiet-after world _ quiet refl (quiet.pending)
    (ap (differs_from (world.viewports.screen.size)) (put-first (Some size) (world.viewports.noted))
    ∙ subst (λ it. differs_from (world.viewports.screen.size) (Some it) ≡ false) (sym is) (ap not (same-size (world.viewports.screen.size))))
    (quiet.resize_observers) (quiet.intersection_observers)

none-pending : (lists : List (List Container)) → entry_or [] (change_at (λ (pending : List Container). []) 0 lists) 0 ≡ []
none-pending [] = refl
none-pending (x ∷ xs) = refl

taken-quiet : (world : World) → IsQuiet world → IsQuiet (record world { scrolls = without_pending 0 (world.scrolls) })
taken-quiet world quiet =
    quiet-after world _ quiet refl (none-pending (world.scrolls.pending)) (quiet.noted) (quiet.resize_observers) (quiet.intersection_observers)

-- the parts of a tick

timers-hushed : (script : Script) (world : World) → IsQuiet world → IsHushed (run_timers script world)
unfolding run_timers
timers-hushed script world quiet =
    for_each-none (λ timer now. only_if (run_timer script timer) now (timer_stands timer (now.timers))) (due_timers (world.clock) (world.timers)) world
    (ap (λ held. by_due_time (filter (λ (timer : Timer). nat_le timer.due world.clock) held)) (quiet.timers))
    quiet

resize-hushed : (script : Script) (world : World) → IsQuiet world → IsHushed (resize_steps script 0 world)
unfolding resize_steps
resize-hushed script world quiet =
    let size = viewport_of (world.tree) (world.viewports.screen) 0 in
    only_if-not (fire script (FiredResize (document_text (world.names) 0)) (WindowTarget 0) events.Resize)
    (record world { viewports = with_noted 0 size (world.viewports) })
    (differs_from size (noted_size 0 (world.viewports)))
    (ap (λ (it : Extent). differs_from it (noted_size 0 (world.viewports))) (own-viewport world quiet) ∙ quiet.noted)
    (noted-quiet world size (own-viewport world quiet) quiet)

scroll-hushed : (script : Script) (world : World) → IsQuiet world → IsHushed (scroll_steps script 0 world)
unfolding scroll_steps
scroll-hushed script world quiet =
    for_each-none (λ target. while_active 0 (λ now. fire script (FiredScroll (container_text (now.names) target)) (event_target_of target) events.Scroll now))
    (pending_of 0 (world.scrolls))
    (record world { scrolls = without_pending 0 (world.scrolls) })
    (quiet.pending)
    (taken-quiet world quiet)

media-hushed : (script : Script) (world : World) → IsQuiet world → IsHushed (media_steps script 0 world)
unfolding media_steps by_place
media-hushed script world quiet =
    hushed _ world
    (ap (lifted (λ (turn : Turn World). turn.state))
    (repeat-not
    (λ (turn : Turn World). is_active (turn.state.tree) 0 && nat_lt (turn.place) (length (turn.state.queries)))
    (λ turn. lifted (at_place (suc turn.place)) (evaluate script 0 (turn.place) (turn.state)))
    most_steps
    (at_place 0 world)
    (and_right (is_active (world.tree) 0) (nat_lt 0 (length world.queries)) (ap (λ queries. nat_lt 0 (length queries)) (quiet.queries)))))
    quiet

frames-hushed : (script : Script) (world : World) → IsQuiet world → IsHushed (frame_steps script 0 world)
unfolding frame_steps
frames-hushed script world quiet =
    for_each-none (λ callback now. only_if (run_frame_callback script callback) now
    (is_active (now.tree) 0 && frame_callback_stands callback (now.frame_callbacks)))
    (frame_callbacks_of 0 (world.frame_callbacks))
    world
    (ap (λ held. filter (λ (callback : FrameCallback). callback.document == 0) held) (quiet.frame_callbacks))
    quiet

gathered-quiet : (world : World) → IsQuiet world → IsQuiet (gather 0 0 world)
unfolding gather
gathered-quiet world quiet =
    quiet-after world _ quiet refl (quiet.pending) (quiet.noted)
    (ap (map (λ (observer : ResizeObserver). gathered_if (is_of 0 observer) (sight_of world) 0 observer)) (quiet.resize_observers))
    (quiet.intersection_observers)

none-active : (world : World) → IsQuiet world → has_active 0 (world.resize_observers) ≡ false
none-active world quiet = ap (λ these. list_any (λ (observer : ResizeObserver). is_of 0 observer && is_filled (observer.active)) these) (quiet.resize_observers)

none-skipped : (world : World) → IsQuiet world → has_skipped 0 (world.resize_observers) ≡ false
none-skipped world quiet =
    ap (λ these. list_any (λ (observer : ResizeObserver). is_of 0 observer && is_filled (observer.skipped)) these) (quiet.resize_observers)

error-hushed : (script : Script) (world : World) → IsQuiet world → IsHushed (report_skipped script 0 world)
error-hushed script world quiet =
    only_if-not (fire script (FiredError (document_text (world.names) 0)) (WindowTarget 0) events.Error) world
    (is_active (world.tree) 0 && has_skipped 0 (world.resize_observers))
    (and_right (is_active (world.tree) 0) (has_skipped 0 (world.resize_observers)) (none-skipped world quiet))
    quiet

loop-hushed : (script : Script) (world : World) → IsQuiet world → IsHushed (resize_loop script 0 world)
unfolding resize_loop
loop-hushed script world quiet =
    after-hushed (report_skipped script 0)
    (repeat (λ now. is_active (now.tree) 0 && has_active 0 (now.resize_observers)) (round script 0) most_steps (gather 0 0 world))
    (error-hushed script)
    (hushed _ (gather 0 0 world)
    (repeat-not (λ now. is_active (now.tree) 0 && has_active 0 (now.resize_observers)) (round script 0) most_steps (gather 0 0 world)
    (and_right (is_active (gather 0 0 world).tree 0) ((has_active 0 (gather 0 0 world).resize_observers))
    (none-active (gather 0 0 world) (gathered-quiet world quiet))))
    (gathered-quiet world quiet))

-- where there are no observers none is settled
settled-none : (time : ℕ) (find : ℕ → IntersectionObserver → ℕ → Finding) (observers : List ℕ) (it : IntersectionObservers) → it.made ≡ [] →
    (settling time find observers it).made ≡ []
settled-none time find [] it none = none
settled-none time find (observer ∷ others) it none =
    settled-none time find others (record it { made = change_at (settled_observer time (find observer)) observer (it.made) })
    (ap (change_at (settled_observer time (find observer)) observer) none)

updated-quiet : (world : World) → IsQuiet world → IsQuiet (update_intersections 0 world)
unfolding update_intersections
updated-quiet world quiet =
    let watching = places_from 0 (λ (observer : IntersectionObserver). is_rooted_in (world.tree) 0 (observer.root)) in
    let now =
    record world {
      intersection_observers = settling (world.clock) (found_now world) (watchers (world.tree) 0 (world.intersection_observers))
          (world.intersection_observers);
    } in
    let still : IsQuiet now =
    quiet-after world now quiet refl (quiet.pending) (quiet.noted) (quiet.resize_observers)
    (settled-none (world.clock) (found_now world) (watchers (world.tree) 0 (world.intersection_observers)) (world.intersection_observers)
    (quiet.intersection_observers)) in
    subst (λ test. IsQuiet (cond test (with_notify_task 0 (is_notifying 0 (world.notifying)) now) now))
    (sym (ap (λ these. list_any (has_queued (world.intersection_observers) (now.intersection_observers)) (watching these)) (quiet.intersection_observers)))
    still

-- a part of an update of the rendering
abbrev IsHushedPart : (ℕ → World → Said World) → Type 0
IsHushedPart part = (world : World) → IsQuiet world → IsHushed (part 0 world)

parts-hushed : (script : Script) → AllByRecursion IsHushedPart (parts_of_update script)
parts-hushed script = (
  resize-hushed script,
  (
    scroll-hushed script,
    (
      media-hushed script,
      (frames-hushed script, (loop-hushed script, (λ world quiet. stays (update_intersections 0 world) (updated-quiet world quiet), tt))),
    ),
  ),
)

update-hushed : (script : Script) (world : World) → IsQuiet world → IsHushed (update_rendering script world)
unfolding update_rendering
update-hushed script world quiet =
    let documents = active_documents (world.tree) in
    all-hushed IsHushedPart (λ part. for_each (λ document. while_active document (part document)) documents) (parts_of_update script) (parts-hushed script)
    (λ part each. all-hushed (λ (document : ℕ). ⊤) (λ document. while_active document (part document)) documents (all-so documents)
    (λ document is. active-hushed document part each))
    world
    quiet

tasks-hushed : (script : Script) (world : World) → IsQuiet world → IsHushed (run_tasks script world)
unfolding run_tasks
tasks-hushed script world quiet =
    hushed _ world (repeat-not (λ now. has_tasks (now.tasks)) (λ now. run_first script (now.tasks) now) most_steps world (ap has_tasks (quiet.tasks))) quiet

-- a line said first
record IsHushedBut (line : TraceLine) (said : Said World) : Type 0 where
  world : World
  quiet : IsQuiet world
  is : said ≡ say (line ∷ []) world

after-but : (line : TraceLine) (rest : World → Said World) (said : Said World) → ((world : World) → IsQuiet world → IsHushed (rest world)) →
    IsHushedBut line said → IsHushedBut line (said followed_by rest)
unfolding ◌followed_by◌
after-but line rest said each here =
    let next : IsHushed (rest (here.world)) = each (here.world) (here.quiet) in
    record { world = next.world; quiet = next.quiet; is = ap (λ it. it followed_by rest) (here.is) ∙ ap (behind (line ∷ [])) (next.is) }

tick-hushed : (script : Script) (world : World) → IsQuiet world → IsHushedBut (TickLine (world.clock)) (tick script world)
unfolding tick
tick-hushed script world quiet =
    let line = TickLine (world.clock) in
    let begins = say (line ∷ []) world in
    after-but line (run_tasks script) (begins followed_by run_timers script followed_by update_rendering script) (tasks-hushed script)
    (after-but line (update_rendering script) (begins followed_by run_timers script) (update-hushed script)
    (after-but line (run_timers script) begins (timers-hushed script)
    (record { world = world; quiet = quiet; is = refl })))

pub tick-line : (script : Script) (world : World) → IsQuiet world → (tick script world).lines ≡ TickLine (world.clock) ∷ []
tick-line script world quiet = ap (λ (said : Said World). said.lines) (tick-hushed script world quiet).is

pub tick-quiet : (script : Script) (world : World) → IsQuiet world → IsQuiet (tick script world).state
tick-quiet script world quiet =
    let after = tick-hushed script world quiet in
    subst (λ (said : Said World). IsQuiet (said.state)) (sym (after.is)) (after.quiet)
