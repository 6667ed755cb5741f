-- What every command and every change of a tick keeps is kept by callbacks, ticks and whole runs.
use Rattle.std.proofs.Common.{◌≡◌, refl}
use Rattle.std.specs.Prelude.{ℕ, zero, suc, ◌<◌, ◌&&◌, map, Bool, true, false, nat_lt, List, [], ◌∷◌, length, Option, Some, None}
use Rattle.std.specs.List.{AllByRecursion}
use Rattle.text_io.specs.declared.kinds.EventKind.{EventKind}
use Rattle.text_io.specs.declared.kinds.EventKind.TheVariants as events
use Rattle.text_io.specs.declared.kinds.LimitKind.TheVariants as limits
use Rattle.script_model.specs.Syntax.{Action, Command, Simple, Each, When, Block, NoMore, Then}
use Rattle.script_model.specs.TraceLines.{FiredEvent}
use Rattle.text_io.specs.Limits.{limit_number}
use Rattle.page_model.specs.World.{World, Entry, EventTarget, DocumentTarget, WindowTarget, Observation, Task, Notify, Posted, Timer, FrameCallback}
use Rattle.page_model.specs.Lookups.{intersection_observer_at}
use Rattle.page_model.specs.Documents.{is_active, active_documents}
use Rattle.page_model.specs.PageBoxes.{viewport_of}
use Rattle.page_model.specs.Tasks.{has_tasks}
use Rattle.page_model.specs.Gathering.{sight_of, size_entry, has_active, due_at}
use Rattle.page_model.specs.Steps.{Step, Did, Threw, Met}
use Rattle.page_model.specs.Operands.{Present, NoEntry, ResizeEntry, IntersectionEntry}
use Rattle.page_model.specs.Commands.{does, holds, begun_in}
use Rattle.page_model.specs.Runs.{Flow, Next, Thrown, Limited, Said, Turn, say, follow, ◌followed_by◌, caught, only_if, lifted, for_each, repeat, by_place, at_place, most_steps}
use Rattle.page_model.specs.Callbacks.{Script, handler_names, Entries, SizeEntries, CutEntries, NoEntries, answered, once_begun, said_by, run_command, run_block, run_handler, while_active, call, invoke, bubble, fire, presents, handler_block, entry_lines}
use Rattle.page_model.specs.Intersections.{take_queue, notify_watcher, notify}
use Rattle.page_model.specs.Loop.{Broadcast, gather, deliver_some, broadcast, round, round_ended, report_skipped, resize_loop}
use Rattle.page_model.specs.Ticks.{intersection_steps, run_timers, run_timer, resize_steps, scroll_steps, evaluated, evaluate, media_steps, frame_steps, run_frame_callback, parts_of_update, update_rendering, run_task, run_first, run_tasks, tick}
use Rattle.page_laws.specs.Successors.{OnDid}
use Rattle.page_laws.proofs.Steps.{did, on_did-all, room-then}
use Rattle.page_laws.proofs.Changes.{IsNext, active-in, timer-next, frame-next, noted-next, pending-next, matched-next, tasks-next, unnotified-next, queue-next, emptied-next, reported-next, gather-next, update-next}

-- folds of steps -----------------------------------------------------------------------------------------------------------

module _ {S : Type 0} (P : S → Type 0) where
  follow-keeps : (flow : Flow) (rest : S → Said S) (said : Said S) → ((s : S) → P s → P (rest s).state) → P said.state → P (follow flow rest said).state
  unfolding follow
  follow-keeps Next rest said each here = each (said.state) here
  follow-keeps Thrown rest said each here = here
  follow-keeps Limited rest said each here = here

  pub then-keeps : (said : Said S) (rest : S → Said S) → P said.state → ((s : S) → P s → P (rest s).state) → P (said followed_by rest).state
  unfolding ◌followed_by◌
  then-keeps said rest here each = follow-keeps (said.flow) rest said each here

  -- a step under a test, which holds where the step is run
  pub where-keeps : (step : S → Said S) (s : S) (test : Bool) → (test ≡ true → P (step s).state) → P s → P (only_if step s test).state
  where-keeps step s true there here = there refl
  where-keeps step s false there here = here

  pub only_if-keeps : (step : S → Said S) (s : S) (test : Bool) → ((s : S) → P s → P (step s).state) → P s → P (only_if step s test).state
  only_if-keeps step s test each here = where-keeps step s test (λ is. each s here) here

  pub all_of-keeps : {A : Type 0} (In : A → Type 0) (step : A → S → Said S) (items : List A) → AllByRecursion In items →
      ((item : A) (s : S) → In item → P s → P (step item s).state) → (s : S) → P s → P (for_each step items s).state
  unfolding for_each
  all_of-keeps In step [] all each s here = here
  all_of-keeps In step (item ∷ others) all each s here =
      then-keeps (step item s) (for_each step others) (each item s (all.0) here) (all_of-keeps In step others (all.1) each)

  pub for_each-keeps : {A : Type 0} (step : A → S → Said S) (items : List A) → ((item : A) (s : S) → P s → P (step item s).state) → (s : S) → P s →
      P (for_each step items s).state
  unfolding for_each
  for_each-keeps step [] each s here = here
  for_each-keeps step (item ∷ others) each s here = then-keeps (step item s) (for_each step others) (each item s here) (for_each-keeps step others each)

  pub repeat-keeps : (goes_on : S → Bool) (step : S → Said S) (most : ℕ) → ((s : S) → P s → goes_on s ≡ true → P (step s).state) → (s : S) → P s →
      P (repeat goes_on step most s).state
  unfolding repeat
  repeat-keeps goes_on step zero each s here = here
  repeat-keeps goes_on step (suc most) each s here =
      where-keeps (λ now. step now followed_by repeat goes_on step most) s (goes_on s)
      (λ is. then-keeps (step s) (repeat goes_on step most) (each s here is) (repeat-keeps goes_on step most each))
      here

pub by_place-keeps : {S : Type 0} (P : S → Type 0) (count : S → ℕ) (goes_on : S → Bool) (step : ℕ → S → Said S) →
    ((place : ℕ) (s : S) → P s → P (step place s).state) → (s : S) → P s → P (by_place count goes_on step s).state
unfolding by_place
by_place-keeps {S = S} P count goes_on step each s here =
    repeat-keeps (λ (turn : Turn S). P (turn.state))
    (λ turn. goes_on (turn.state) && nat_lt (turn.place) (count (turn.state)))
    (λ turn. lifted (at_place (suc turn.place)) (step (turn.place) (turn.state)))
    most_steps
    (λ turn held is. each (turn.place) (turn.state) held)
    (at_place 0 s)
    here

-- what is kept -------------------------------------------------------------------------------------------------------------

abbrev pub counted : World → World
counted world = record world { begun = suc world.begun }

-- `P` of a world in a callback, `In` of each of the entries that it was handed: a command keeps `P`, once it was counted
pub record IsCarried (script : Script) (P : World → Type 0) (In : Present → Type 0) : Type 0 where
  pub begun : (world : World) → world.begun < limit_number (world.version) limits.Commands → P world → P (counted world)
  pub does : (world : World) (present : Present) (action : Action) → In present → world.begun < limit_number (world.version) limits.Commands → P world →
      OnDid (does (handler_names script) (counted world) present action) (λ effect. P (effect.world))
  pub none : In NoEntry

-- the same where counting a command doesn't matter to `P`
pub carried-by : (script : Script) (P : World → Type 0) (In : Present → Type 0) →
    ((world : World) → world.begun < limit_number (world.version) limits.Commands → P world → P (counted world)) →
    ((world : World) (present : Present) (action : Action) → In present → P world →
    OnDid (does (handler_names script) world present action) (λ effect. P (effect.world))) → In NoEntry → IsCarried script P In
carried-by script P In begun each none = record {
  begun = begun;
  does = λ world present action is room here. each (counted world) present action is (begun world room here);
  none = none;
}

-- `P k` of a world in a callback that was handed entries when there were k elements, `In k` of each of these entries
pub record IsKept (script : Script) (P : ℕ → World → Type 0) (In : ℕ → Present → Type 0) : Type 0 where
  pub next : (k : ℕ) (before now : World) → IsNext before now → P k before → P k now
  pub carried : (k : ℕ) → IsCarried script (P k) (In k)
  pub entered : (k : ℕ) (world : World) → P k world → P (length world.tree.elements) world
  pub left : (k : ℕ) (before now : World) → P k before → P (length before.tree.elements) now → P k now
  pub due : (k : ℕ) (world : World) (document observer : ℕ) → P k world →
      AllByRecursion (λ (each : Observation). In (length world.tree.elements) (ResizeEntry (each.target))) (due_at document observer (world.resize_observers))
  pub queued : (k : ℕ) (world : World) (observer : ℕ) → P k world →
      AllByRecursion (λ (each : Entry). In (length world.tree.elements) (IntersectionEntry (each.target) (each.finding.meets)))
      (intersection_observer_at (world.intersection_observers) observer).queue

-- within a callback

pub answered-keeps : {A : Type 0} (P : World → Type 0) (line : ℕ) (world : World) (next : A → Said World) (step : Step A) → P world →
    OnDid step (λ value. P (next value).state) → P (answered line world next step).state
unfolding answered OnDid
answered-keeps P line world next (Did value) here there = there
answered-keeps P line world next (Threw exception) here there = here
answered-keeps P line world next (Met limit) here there = here

pub caught-keeps : (P : World → Type 0) (said : Said World) → P said.state → P (caught said).state
unfolding caught
caught-keeps P said here = here

pub once_begun-keeps : (P : World → Type 0) (line : ℕ) (world : World) (run : World → Said World) → P world →
    (world.begun < limit_number (world.version) limits.Commands → P (run (counted world)).state) → P (once_begun line world run).state
unfolding once_begun begun_in
once_begun-keeps P line world run here each =
    answered-keeps P line world run (begun_in world) here
    (room-then limits.Commands (world.begun) (limit_number (world.version) limits.Commands) _ _ (λ room. did (counted world) _ (each room)))

module _ (script : Script) (P : World → Type 0) (In : Present → Type 0) (carried : IsCarried script P In) where
  module _ (entries : List Present) (are : AllByRecursion In entries) where
    mutual
      unfolding run_command

      pub command-keeps : (command : Command) (present : Present) (world : World) → In present → P world →
          P (run_command script entries command present world).state
      command-keeps (Simple line action) present world is here =
          once_begun-keeps P line world _ here λ room.
          answered-keeps P line (counted world) said_by _ (carried.begun world room here) (carried.does world present action is room here)
      command-keeps (Each line block end_line) present world is here =
          once_begun-keeps P line world _ here λ room.
          all_of-keeps P In (run_block script entries block) entries are (λ each now in_range. block-keeps block each now in_range) (counted world)
          (carried.begun world room here)
      command-keeps (When line condition block end_line) present world is here =
          once_begun-keeps P line world _ here λ room.
          let held : P (counted world) = carried.begun world room here in
          answered-keeps P line (counted world) _ (holds (counted world) present condition) held
          (on_did-all (holds (counted world) present condition) _
          (λ answer. only_if-keeps P (run_block script entries block present) (counted world) answer (λ now. block-keeps block present now is) held))

      pub block-keeps : (block : Block) (present : Present) (world : World) → In present → P world →
          P (run_block script entries block present world).state
      block-keeps NoMore present world is here = here
      block-keeps (Then command others) present world is here =
          then-keeps P (run_command script entries command present world) (run_block script entries others present)
          (command-keeps command present world is here) (λ now. block-keeps others present now is)

  handler-keeps : (handed : Entries) → AllByRecursion In (presents handed) → (handler : Option ℕ) (world : World) → P world →
      P (run_handler script handed handler world).state
  handler-keeps handed are None world here = here
  handler-keeps handed are (Some handler) world here =
      caught-keeps P (run_block script (presents handed) (handler_block script handler) NoEntry world)
      (block-keeps (presents handed) are (handler_block script handler) NoEntry world carried.none here)

  pub called-keeps : (document : ℕ) (handler : Option ℕ) (handed : Entries) (world : World) → AllByRecursion In (presents handed) → P world →
      P (call script document handler handed world).state
  unfolding call
  called-keeps document handler handed world are here =
      only_if-keeps P (λ now. say (entry_lines (now.version) (now.names) handed) now followed_by run_handler script handed handler) world
      (is_active (world.tree) document)
      (λ now held. then-keeps P (say (entry_lines (now.version) (now.names) handed) now) (run_handler script handed handler) held (handler-keeps handed are handler))
      here

-- around callbacks

module _ (script : Script) (P : ℕ → World → Type 0) (In : ℕ → Present → Type 0) (kept : IsKept script P In) where
  module _ (k : ℕ) where
    -- a callback with entries of the world that it is called in, or of one with as many elements
    entries-keep : (document : ℕ) (handler : Option ℕ) (handed : Entries) (world : World) →
        AllByRecursion (In (length world.tree.elements)) (presents handed) → P k world → P k (call script document handler handed world).state
    entries-keep document handler handed world are here =
        kept.left k world _ here
        (called-keeps script _ _ (kept.carried (length world.tree.elements)) document handler handed world are (kept.entered k world here))

    call-keeps : (document : ℕ) (handler : Option ℕ) (world : World) → P k world → P k (call script document handler NoEntries world).state
    call-keeps document handler world here = called-keeps script _ _ (kept.carried k) document handler NoEntries world tt here

    invoke-keeps : (target : EventTarget) (event : EventKind) (world : World) → P k world → P k (invoke script target event world).state
    unfolding invoke
    invoke-keeps target event world here = search (for_each-keeps (P k), only_if-keeps (P k), call-keeps)

    bubble-keeps : (target : EventTarget) (event : EventKind) (world : World) → P k world → P k (bubble script target event world).state
    bubble-keeps (DocumentTarget document) events.Scroll world here = invoke-keeps (WindowTarget document) events.Scroll world here
    bubble-keeps target event world here = here

    fire-keeps : (event : FiredEvent) (target : EventTarget) (name : EventKind) (world : World) → P k world → P k (fire script event target name world).state
    unfolding fire
    fire-keeps event target name world here = search (then-keeps (P k), invoke-keeps, bubble-keeps)

    -- a step where a document is Active, which is then one that there is
    active-keeps : (document : ℕ) (run : World → Said World) → ((now : World) → is_active (now.tree) document ≡ true → P k now → P k (run now).state) →
        (world : World) → P k world → P k (while_active document run world).state
    active-keeps document run each world here = where-keeps (P k) run world (is_active (world.tree) document) (λ is. each world is here) here

    -- intersections

    queue-keeps : (entries : List Entry) (observer : ℕ) (world : World) →
        AllByRecursion (λ (each : Entry). In (length world.tree.elements) (IntersectionEntry (each.target) (each.finding.meets))) entries → P k world →
        P k (take_queue script entries observer world).state
    queue-keeps [] observer world are here = here
    queue-keeps (entry ∷ entries) observer world are here =
        entries-keep _ _ (CutEntries observer (entry ∷ entries)) _ (all-cut (length world.tree.elements) (entry ∷ entries) are)
        (kept.next k world _ (queue-next world observer) here)
      where
        all-cut : (count : ℕ) (these : List Entry) → AllByRecursion
            (λ (each : Entry). In count (IntersectionEntry (each.target) (each.finding.meets))) these →
            AllByRecursion (In count) (presents (CutEntries observer these))
        all-cut count [] all = tt
        all-cut count (x ∷ xs) all = (all.0, all-cut count xs (all.1))

    watcher-keeps : (observer : ℕ) (world : World) → P k world → P k (notify_watcher script observer world).state
    watcher-keeps observer world here = queue-keeps _ observer world (kept.queued k world observer here) here

    -- the first task, once it was taken off
    notify-keeps : (document : ℕ) (others : List Task) (world : World) → world.tasks ≡ Notify document ∷ others → P k world →
        P k (notify script document (record world { tasks = others })).state
    unfolding notify
    notify-keeps document others world are here =
        let off = kept.next k world _ (tasks-next world (Notify document) others are) here in
        let unmarked = kept.next k world _ (unnotified-next world document others are) here in
        search (where-keeps (P k), for_each-keeps (P k), watcher-keeps)

    -- the resize loop

    some-keeps : (document observer : ℕ) (so_far : Broadcast) (delivered : List Observation) →
        AllByRecursion (λ (each : Observation). In (length so_far.world.tree.elements) (ResizeEntry (each.target))) delivered → P k (so_far.world) →
        P k (deliver_some script document observer so_far delivered).state.world
    some-keeps document observer so_far [] are held = held
    some-keeps document observer so_far (first ∷ others) are held =
        let world = so_far.world in
        kept.next k _ _ (emptied-next _ document observer)
        (entries-keep document _ (SizeEntries observer (map (size_entry (sight_of world)) (first ∷ others))) _
        (all-sized (length world.tree.elements) (first ∷ others) are)
        (kept.next k world _ (reported-next world (sight_of world) observer (first ∷ others)) held))
      where
        all-sized : (count : ℕ) (these : List Observation) → AllByRecursion (λ (each : Observation). In count (ResizeEntry (each.target))) these →
            AllByRecursion (In count) (presents (SizeEntries observer (map (size_entry (sight_of (so_far.world))) these)))
        all-sized count [] all = tt
        all-sized count (x ∷ xs) all = (all.0, all-sized count xs (all.1))

    pub due-keeps : (document observer : ℕ) (so_far : Broadcast) → P k (so_far.world) →
        P k (deliver_some script document observer so_far (due_at document observer (so_far.world.resize_observers))).state.world
    due-keeps document observer so_far held = some-keeps document observer so_far _ (kept.due k (so_far.world) document observer held) held

    pub broadcast-keeps : (document : ℕ) (world : World) → P k world → P k (broadcast script document world).state.world
    unfolding broadcast
    broadcast-keeps document world here =
        by_place-keeps (λ (so_far : Broadcast). P k (so_far.world))
        (λ so_far. length (so_far.world.resize_observers.made))
        (λ so_far. is_active (so_far.world.tree) document)
        (λ observer so_far. deliver_some script document observer so_far (due_at document observer (so_far.world.resize_observers)))
        (due-keeps document)
        (record { world = world; shallowest = None })
        here

    pub round-keeps : (document : ℕ) (world : World) → P k world → P k (round script document world).state
    round-keeps document world here =
        then-keeps (λ (so_far : Broadcast). P k (so_far.world)) (broadcast script document world) _
        (broadcast-keeps document world here)
        (λ so_far held. only_if-keeps (λ (it : Broadcast). P k (it.world)) (round_ended document) so_far (is_active (so_far.world.tree) document)
        (λ it there. kept.next k (it.world) _ (gather-next document _ (it.world)) there)
        held)

    error-keeps : (document : ℕ) (world : World) → P k world → P k (report_skipped script document world).state
    error-keeps document world here = search (only_if-keeps (P k), fire-keeps)

    loop-keeps : (document : ℕ) (world : World) → P k world → P k (resize_loop script document world).state
    unfolding resize_loop
    loop-keeps document world here =
        let goes_on = λ (now : World). is_active (now.tree) document && has_active document (now.resize_observers) in
        let first = gather document 0 world in
        then-keeps (P k) (repeat goes_on (round script document) most_steps first) (report_skipped script document)
        (repeat-keeps (P k) goes_on (round script document) most_steps (λ now held is. round-keeps document now held) first
        (kept.next k world first (gather-next document 0 world) here))
        (error-keeps document)

    -- the other parts of a tick

    timer-keeps : (timer : Timer) (world : World) → P k world → P k (run_timer script timer world).state
    timer-keeps timer world here =
        then-keeps (P k) _ _ (kept.next k world _ (timer-next world (timer.serial)) here) (call-keeps (timer.document) (Some (timer.handler)))

    timers-keep : (world : World) → P k world → P k (run_timers script world).state
    unfolding run_timers
    timers-keep world here = search (for_each-keeps (P k), only_if-keeps (P k), timer-keeps)

    size-keeps : (document : ℕ) (world : World) → is_active (world.tree) document ≡ true → P k world → P k (resize_steps script document world).state
    unfolding resize_steps
    size-keeps document world is here =
        let size = viewport_of (world.tree) (world.viewports.screen) document in
        let noted = kept.next k world _ (noted-next world document size (active-in (world.tree) document is)) here in
        search (only_if-keeps (P k), fire-keeps)

    scroll-keeps : (document : ℕ) (world : World) → P k world → P k (scroll_steps script document world).state
    unfolding scroll_steps
    scroll-keeps document world here =
        let taken = kept.next k world _ (pending-next world document) here in
        search (for_each-keeps (P k), active-keeps, fire-keeps)

    evaluated-keeps : (query : ℕ) (matched : Bool) (world : World) → P k world → P k (evaluated script query matched world).state
    evaluated-keeps query matched world here =
        let now = kept.next k world _ (matched-next world matched query) here in
        search (only_if-keeps (P k), fire-keeps)

    pub evaluate-keeps : (document query : ℕ) (world : World) → P k world → P k (evaluate script document query world).state
    evaluate-keeps document query world here = search (only_if-keeps (P k), evaluated-keeps)

    media-keeps : (document : ℕ) (world : World) → P k world → P k (media_steps script document world).state
    unfolding media_steps
    media-keeps document world here =
        by_place-keeps (P k) (λ now. length (now.queries)) (λ now. is_active (now.tree) document) (evaluate script document)
        (evaluate-keeps document) world here

    callback-keeps : (callback : FrameCallback) (world : World) → P k world → P k (run_frame_callback script callback world).state
    callback-keeps callback world here =
        then-keeps (P k) _ _ (kept.next k world _ (frame-next world (callback.serial)) here) (call-keeps (callback.document) (Some (callback.handler)))

    frames-keep : (document : ℕ) (world : World) → P k world → P k (frame_steps script document world).state
    unfolding frame_steps
    frames-keep document world here = search (for_each-keeps (P k), only_if-keeps (P k), callback-keeps)

    -- an update of the rendering: what each of its parts keeps for a document that is Active
    abbrev IsPart : (ℕ → World → Said World) → Type 0
    IsPart part = (document : ℕ) (world : World) → is_active (world.tree) document ≡ true → P k world → P k (part document world).state

    sights-keep : IsPart intersection_steps
    sights-keep document world is here = kept.next k world _ (update-next document world (active-in (world.tree) document is)) here

    parts-keep : AllByRecursion IsPart (parts_of_update script)
    parts-keep = (
      size-keeps,
      (
        λ document world is. scroll-keeps document world,
        (
          λ document world is. media-keeps document world,
          (λ document world is. frames-keep document world, (λ document world is. loop-keeps document world, (sights-keep, tt))),
        ),
      ),
    )

    update-keeps : (world : World) → P k world → P k (update_rendering script world).state
    unfolding update_rendering
    update-keeps world here =
        all_of-keeps (P k) IsPart (λ part. for_each (λ document. while_active document (part document)) (active_documents (world.tree))) (parts_of_update script)
        parts-keep
        (λ part now each. for_each-keeps (P k) (λ document. while_active document (part document)) (active_documents (world.tree))
        (λ document. active-keeps document (part document) (each document)) now)
        world
        here

    -- tasks and ticks

    posted-keeps : (document handler : ℕ) (world : World) → P k world → P k (run_task script (Posted document handler) world).state
    posted-keeps document handler world here = then-keeps (P k) _ _ here (call-keeps document (Some handler))

    pub first-keeps : (tasks : List Task) (world : World) → world.tasks ≡ tasks → P k world → P k (run_first script tasks world).state
    first-keeps [] world are here = here
    first-keeps (Notify document ∷ others) world are here = notify-keeps document others world are here
    first-keeps (Posted document handler ∷ others) world are here =
        posted-keeps document handler (record world { tasks = others }) (kept.next k world _ (tasks-next world (Posted document handler) others are) here)

    tasks-keep : (world : World) → P k world → P k (run_tasks script world).state
    unfolding run_tasks
    tasks-keep world here =
        repeat-keeps (P k) (λ now. has_tasks (now.tasks)) (λ now. run_first script (now.tasks) now) most_steps
        (λ now held is. first-keeps (now.tasks) now refl held) world here

    pub tick-keeps : (world : World) → P k world → P k (tick script world).state
    unfolding tick
    tick-keeps world here = search (then-keeps (P k), timers-keep, update-keeps, tasks-keep)
