-- What the parts of an update do on a page that a host keeps. All of this is this project's own choice.
use Rattle.std.specs.Prelude.{◌≡◌, ℕ, ◌<◌, List, [], cond, Option, None, Some, Result, Ok, Err}
use Rattle.event_tables.specs.Tasks.{first_of, others_of}
use Rattle.intersection_update.specs.Watching.{watcher_numbers}
use Rattle.kept_layout.specs.declared.slots.Slot.{Slot}
use Rattle.script_syntax.specs.Allowed.{IsTime}
use Rattle.page_model.specs.Documents.{is_active}
use Rattle.page_model.specs.Intersections.{watchers}
use Rattle.page_model.specs.Steps.{Did}
use Rattle.page_model.specs.Tasks.{without_notifying}
use Rattle.page_model.specs.Ticks.{time_set}
use Rattle.page_model.specs.World.{World, Notify, Posted}
use Rattle.trace_runs.specs.declared.faults.RunFault.TheVariants.{Memory}
use Rattle.live_page.specs.Lives.{LiveView}
use Rattle.live_page.specs.declared.engine.LiveTask.{LiveTask}
use Rattle.live_page.specs.declared.engine.LiveTask.TheVariants as tasks
use Rattle.live_page.specs.declared.faults.LiveFault.{LiveFault}
use Rattle.live_page.specs.declared.faults.LiveFault.TheVariants.{Time, Stopped}

-- the page in another world, with these boxes stored
abbrev pub with_world : World → List Slot → LiveView → LiveView
with_world world kept live = record live { page = record (live.page) { world = world; kept = kept } }

-- want of memory
abbrev pub IsMemory : LiveFault → Type 0
IsMemory fault = fault ≡ Stopped Memory

-- the clock is set, if the time is in range and not before the clock's
abbrev pub ClockSet : {A : Type 0} → ℕ → Result A LiveFault → LiveView → LiveView → Type 0
ClockSet time (Ok value) old new = IsTime time × (time_set time (old.page.world) ≡ Did (new.page.world)) × (new ≡ with_world (new.page.world) (old.page.kept) old)
ClockSet time (Err Time) old new = (IsTime time → time < old.page.world.clock) × (new ≡ old)
ClockSet time (Err fault) old new = ⊥

abbrev once_popped : World → World
once_popped world = record world { tasks = others_of (world.tasks) }

-- the first task was taken off the queue; with a notify task of an Active document its flag was cleared, and its observers are these
abbrev pub IsTaskTaken : Option LiveTask → World → World → Type 0
IsTaskTaken None old new = (first_of (old.tasks) ≡ None) × (new ≡ old)
IsTaskTaken (Some (tasks.Posted document handler)) old new = (first_of (old.tasks) ≡ Some (Posted (document.0) (handler.0))) × (new ≡ once_popped old)
IsTaskTaken (Some (tasks.Notify document list)) old new =
    (first_of (old.tasks) ≡ Some (Notify (document.0)))
    × (watcher_numbers list.items ≡ cond (is_active (old.tree) (document.0)) (watchers (old.tree) (document.0) (old.intersection_observers)) [])
    × (new ≡ cond (is_active (old.tree) (document.0)) (record (once_popped old) { notifying = without_notifying (document.0) (old.notifying) }) (once_popped old))
