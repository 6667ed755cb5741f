-- A page that is ready for a tick is so behind each of its calls.
use Rattle.std.proofs.Common.{◌≡◌, refl, ap, sym, subst, ◌∙◌}
use Rattle.std.specs.Prelude.{ℕ, ◌<◌, ◌==◌, Bool, true, false, cond, List, [], ◌∷◌, length, take, Option, Some, None, option_map, Result, Ok, Err, IfSome, IfOk, OnErr}
use Rattle.std.proofs.lemmas.Option.{same_Some}
use Rattle.script_model.specs.Margins.{Margins}
use Rattle.script_model.specs.Syntax.{Action}
use Rattle.page_model.specs.World.{Finding, Entry, Registration, IntersectionObserver, IntersectionObservers, FrameCallback, Task as ModelTask, Notify, Tree, World}
use Rattle.page_model.specs.Callbacks.{Script, handler_names}
use Rattle.page_model.specs.Commands.{does}
use Rattle.page_model.specs.Gathering.{sight_of}
use Rattle.page_model.specs.Intersections.{Settled, is_news, settled, watchers}
use Rattle.page_model.specs.Ranges.{Counts, IsIntersectionObserverIn, IsPresentIn}
use Rattle.page_model.specs.Shown.{Shown}
use Rattle.page_model.specs.Tasks.{is_notifying, without_notifying}
use Rattle.page_laws.specs.Ready.{IsReadyFor, with_first}
use Rattle.page_laws.proofs.Lists.{IsKept, all-append, all-mapped, changed, still-kept, then-kept}
use Rattle.page_laws.proofs.Parts.{registered-in}
use Rattle.page_laws.proofs.Changes.{IsNext, same-next, timer-next, frame-next, matched-next, tasks-next, notified-next, then-next, unnotified-next, intersection-next, reported-next, news-in, all-filter-map, settling-kept}
use Rattle.page_laws.proofs.Ready.{ready-next, ready-done}
use Rattle.element_tree.specs.declared.node.NodeId.{NodeId}
use Rattle.event_tables.specs.declared.events.Task.{Task}
use Rattle.event_tables.specs.FrameCallbacks as frames
use Rattle.event_tables.specs.Timers as timers
use Rattle.event_tables.specs.Seen.{seen_task}
use Rattle.event_tables.specs.Tasks.{first_of, others_of}
use Rattle.depth_gather.specs.Deliveries.{Turn, active_at}
use Rattle.intersection_observer.specs.Places.{Standing, standing_of}
use Rattle.intersection_observer.specs.Serials.{registrations_at}
use Rattle.intersection_observer.specs.Settling.{settled_if, settled_at, settled_standing, with_settled, each_settled}
use Rattle.intersection_update.specs.Updating.{found_through, first_updated, IsStopped}
use Rattle.page_state.specs.Answers.{Applied, lines_of}
use Rattle.page_state.specs.Notices.{once_told}
use Rattle.page_state.specs.Queries.{once_evaluated}
use Rattle.page_state.specs.Rounds.{once_reported}
use Rattle.page_names.specs.Things.{present_of, IsSubject}
use Rattle.page_state.specs.Views.{PageView}
use Rattle.page_state.specs.declared.answers.Effect.{Effect}
use Rattle.page_state.specs.declared.answers.PageFault.{PageFault}
use Rattle.page_state.specs.declared.answers.PageFault.TheVariants.{Throw, Limit, Memory}

-- by what a call says of the page

module _ (handlers : ℕ) where
  pub ready_at : {new after : World} → new ≡ after → IsReadyFor handlers after → IsReadyFor handlers new
  ready_at is ready = subst (λ (world : World). IsReadyFor handlers world) (sym is) ready

  pub ready_by : (old : World) {new after : PageView} → new ≡ after → IsNext old (after.world) → IsReadyFor handlers old → IsReadyFor handlers (new.world)
  ready_by old is next ready = ready_at (ap (λ (page : PageView). page.world) is) (ready-next handlers old ready _ next)

-- by whether it was refused
pub by_result : {A E P : Type 0} (Done Refused : Type 0) (result : Result A E) → IfOk result (λ (value : A). Done) → OnErr result Refused → (Done → P) → (Refused → P) → P
by_result Done Refused (Ok value) done refused if_done if_refused = if_done done
by_result Done Refused (Err fault) done refused if_done if_refused = if_refused refused

-- a command that is applied

pub present_in : (world : World) (subject : Option NodeId) → IsSubject (length world.tree.elements) subject → IsPresentIn world (present_of subject)
present_in world None is = tt
present_in world (Some node) is = is

module _ (script : Script) (old new : World) (subject : Option NodeId) (action : Action) (is : IsSubject (length old.tree.elements) subject) where
  pub ready_applied : (result : Result Effect PageFault) → Applied result old new (does (handler_names script) old (present_of subject) action) →
      IsReadyFor (length script) old → IsReadyFor (length script) new
  ready_applied (Ok effect) applied ready =
      ready-done script old ready (present_of subject) action (present_in old subject is) (record { world = new; lines = lines_of new effect }) applied
  ready_applied (Err (Throw kind)) applied ready = ready_at (length script) applied.1 ready
  ready_applied (Err (Limit kind)) applied ready = ready_at (length script) applied.1 ready
  ready_applied (Err Memory) applied ready = ready_at (length script) applied.1 ready

-- what a tick does to single parts

pub frame_handed : (world : World) (found : Option FrameCallback) → IsNext world (record world { frame_callbacks = frames.once_handed found (world.frame_callbacks) })
frame_handed world None = same-next world
frame_handed world (Some it) = frame-next world (it.serial)

pub timer_handed : (world : World) (found : Option FrameCallback) → IsNext world (record world { timers = timers.once_handed found (world.timers) })
timer_handed world None = same-next world
timer_handed world (Some it) = timer-next world (it.serial)

pub turn_reported : (world : World) (turn : Option Turn) → IsNext world (once_reported turn world)
turn_reported world None = same-next world
turn_reported world (Some turn) = reported-next world (sight_of world) (turn.observer) (active_at (world.resize_observers) (turn.observer))

pub list_evaluated : (world : World) (document : ℕ) (query : Option ℕ) → IsNext world (once_evaluated document query world)
list_evaluated world document None = same-next world
list_evaluated world document (Some query) = matched-next world _ query

tasks-popped : (world : World) (tasks : List ModelTask) → world.tasks ≡ tasks → IsNext world (record world { tasks = others_of tasks })
tasks-popped world [] is = subst (λ (tasks : List ModelTask). IsNext world (record world { tasks = tasks })) is (same-next world)
tasks-popped world (task ∷ others) is = tasks-next world task others is

pub task_popped : (world : World) → IsNext world (record world { tasks = others_of (world.tasks) })
task_popped world = tasks-popped world (world.tasks) refl

-- the page is ready with a task that was taken off before all others
tasks-as-before : (handlers : ℕ) (world : World) (tasks : List ModelTask) → world.tasks ≡ tasks → (taken : Option Task) → option_map seen_task taken ≡ first_of tasks →
    IsReadyFor handlers world → IfSome taken (λ (task : Task). IsReadyFor handlers (with_first (seen_task task) (record world { tasks = others_of tasks })))
tasks-as-before handlers world tasks is None first ready = tt
tasks-as-before handlers world [] is (Some task) first ready = absurd (cc)
tasks-as-before handlers world (next ∷ others) is (Some task) first ready =
    subst (λ (tasks : List ModelTask). IsReadyFor handlers (record world { tasks = tasks }))
    (is ∙ ap (λ (it : ModelTask). it ∷ others) (sym (same_Some (seen_task task) next first))) ready

pub task_as_before : (handlers : ℕ) (old : World) {new : PageView} {after : PageView} (taken : Option Task) → option_map seen_task taken ≡ first_of (old.tasks) → new ≡ after →
    after.world ≡ record old { tasks = others_of (old.tasks) } → IsReadyFor handlers old →
    IfSome taken (λ (task : Task). IsReadyFor handlers (with_first (seen_task task) (new.world)))
task_as_before handlers old taken first is left ready =
    subst (λ (now : World). IfSome taken (λ (task : Task). IsReadyFor handlers (with_first (seen_task task) now))) (sym (ap (λ (page : PageView). page.world) is ∙ left))
    (tasks-as-before handlers old (old.tasks) refl taken first ready)

pub notify_begun : (world : World) (document : ℕ) → IsNext (with_first (Notify document) world) (record world { notifying = without_notifying document (world.notifying) })
notify_begun world document = unnotified-next (with_first (Notify document) world) document (world.tasks) refl

pub notify_refused : (world : World) (document : ℕ) → IsNext (with_first (Notify document) world) world
notify_refused world document = tasks-next (with_first (Notify document) world) (Notify document) (world.tasks) refl

-- an update of intersections that was refused memory

module _ (counts : Counts) (time : ℕ) where
  settled-if-in : (target : ℕ) (found : Finding) (it : Registration) → it.target < counts.elements →
      (settled_if target time found it).registration.target < counts.elements
  settled-if-in target found it is = by_test (it.target == target)
    where
      by_test : (test : Bool) → (cond test (settled time found it) (record { registration = it; entry = None })).registration.target < counts.elements
      by_test true = is
      by_test false = is

  entry-if-in : (target : ℕ) (found : Finding) (it : Registration) → it.target < counts.elements →
      IfSome (settled_if target time found it).entry (λ (each : Entry). each.target < counts.elements)
  entry-if-in target found it is = by_test (it.target == target)
    where
      by_test : (test : Bool) → IfSome (cond test (settled time found it) (record { registration = it; entry = None })).entry (λ (each : Entry). each.target < counts.elements)
      by_test true = news-in (λ (entry : Entry). entry.target < counts.elements) _ (is_news it found) is
      by_test false = tt

  settled-at-in : (target : ℕ) (found : Finding) (it : IntersectionObserver) → IsIntersectionObserverIn counts it →
      IsIntersectionObserverIn counts (settled_at target time found it)
  settled-at-in target found it is =
      registered-in counts it is _ _
      (all-mapped _ _ _ (λ one held. held) _ (all-mapped _ (λ (each : Settled). each.registration.target < counts.elements) (settled_if target time found)
      (settled-if-in target found) (it.registrations) is.registrations))
      (all-append _ (it.queue) _ is.queue
      (all-filter-map (λ (each : Settled). each.entry) _ _
      (all-mapped (λ (each : Registration). each.target < counts.elements) (λ (each : Settled). IfSome each.entry (λ (entry : Entry). entry.target < counts.elements))
      (settled_if target time found) (entry-if-in target found) (it.registrations) is.registrations)))

  standing-kept : (standing : Option Standing) (found : Finding) (it : IntersectionObservers) →
      IsKept (IsIntersectionObserverIn counts) (it.made) (settled_standing standing time found it).made
  standing-kept None found it = still-kept (IsIntersectionObserverIn counts) (it.made)
  standing-kept (Some standing) found it =
      changed (IsIntersectionObserverIn counts) (settled_at (standing.target) time found) (settled-at-in (standing.target) found) (standing.watcher) (it.made)

  each-kept : (find : ℕ → Finding) (registrations : List Registration) (it : IntersectionObservers) →
      IsKept (IsIntersectionObserverIn counts) (it.made) (each_settled time find registrations it).made
  each-kept find [] it = still-kept (IsIntersectionObserverIn counts) (it.made)
  each-kept find (registration ∷ others) it =
      let found : Finding = find (registration.target) in
      then-kept (standing-kept (standing_of (registration.serial) it) found it)
      (each-kept find others (with_settled (registration.serial) time found it))

pub update_stopped : (shown : Shown) (margins : List Margins) (tree : Tree) (document time : ℕ) (world : World) (now : IntersectionObservers) →
    IsStopped shown margins tree document time world.intersection_observers now → IsNext world (record world { intersection_observers = now })
update_stopped shown margins tree document time world now stopped =
    let before : IntersectionObservers = world.intersection_observers in
    let first : IntersectionObservers = first_updated shown margins tree document time (stopped.number) before in
    intersection-next world now (λ counts.
    subst (λ (it : IntersectionObservers). IsKept (IsIntersectionObserverIn counts) before.made it.made) (sym stopped.settled)
    (then-kept (settling-kept counts time (found_through shown margins) (watchers tree document (record before { made = take (stopped.number) (before.made) })) before)
    (each-kept counts time _ (take (stopped.place) (registrations_at first (stopped.number))) first)))

-- an update that was refused memory, once the document is told
told_next : (tells : Bool) (document : ℕ) (world : World) → document < length world.tree.documents → IsNext world (once_told tells document world)
told_next true document world is = notified-next world document (is_notifying document (world.notifying)) refl is
told_next false document world is = same-next world

pub stopped_told : (shown : Shown) (margins : List Margins) (tree : Tree) (document time : ℕ) (tells : Bool) (world : World) (now : IntersectionObservers) → document < length world.tree.documents →
    IsStopped shown margins tree document time world.intersection_observers now → IsNext world (once_told tells document (record world { intersection_observers = now }))
stopped_told shown margins tree document time tells world now is stopped =
    then-next (update_stopped shown margins tree document time world now stopped) (told_next tells document (record world { intersection_observers = now }) is)
