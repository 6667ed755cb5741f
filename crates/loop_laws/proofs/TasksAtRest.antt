-- A command posts one task at most, so each task that is run leaves fewer tasks and commands together.
use Rattle.std.proofs.Common.{◌≡◌, refl, sym, subst, arith, ◌≤◌}
use Rattle.std.specs.Prelude.{ℕ, suc, ◌+◌, ◌-◌, ◌<◌, Bool, true, false, List, [], ◌∷◌, length, Option, Some, ⊤}
use Rattle.page_model.specs.World.{Observation, Task, Notify, Posted, Entry, World}
use Rattle.page_model.specs.Lookups.{intersection_observer_at}
use Rattle.page_model.specs.Documents.{is_active}
use Rattle.page_model.specs.Tasks.{has_tasks, without_notifying}
use Rattle.page_model.specs.Operands.{Present}
use Rattle.page_model.specs.Commands.{does}
use Rattle.page_model.specs.Runs.{Said, Next, say, most_steps}
use Rattle.page_model.specs.Callbacks.{Script, Entries, CutEntries, handler_names, presents, call}
use Rattle.page_model.specs.Intersections.{watchers, take_queue, notify_watcher, notify_watchers, notify}
use Rattle.page_model.specs.Ticks.{run_task, run_first}
use Rattle.page_laws.specs.Bounds.{IsWithinLimits}
use Rattle.page_laws.proofs.Steps.{on_did-with}
use Rattle.page_laws.proofs.Commands.{does-next}
use Rattle.page_laws.proofs.Keeping.{counted, IsCarried, called-keeps, then-keeps, only_if-keeps, for_each-keeps}
use Rattle.page_laws.proofs.Turns.{tasks-few, first-within}
use Rattle.page_laws.proofs.Later.{all-so}
use Rattle.loop_laws.specs.TaskRuns.{tasks_left}
use Rattle.loop_laws.proofs.Bounded.{IsLess}
use Rattle.loop_laws.proofs.Effects.{does-done}
use Rattle.loop_laws.proofs.Loops.{few-begun}

-- callbacks ----------------------------------------------------------------------------------------------------------------

-- no more tasks were added than commands were begun
record HasFitted (before now : World) : Type 0 where
  begun : before.begun ≤ now.begun
  tasks : length now.tasks + before.begun ≤ length before.tasks + now.begun

fits-carried : (script : Script) (before : World) → IsCarried script (HasFitted before) (λ (present : Present). ⊤)
fits-carried script before = record {
  begun = λ world room here. record {
    begun = omega (arith, here.begun);
    tasks = let so_far : length world.tasks + before.begun ≤ length before.tasks + world.begun = here.tasks in omega (arith, so_far);
  };
  does = λ world present action is room here.
      on_did-with (does (handler_names script) (counted world) present action) _ _ (λ effect. HasFitted before (effect.world))
      (λ effect next more. record {
        begun = omega (arith, here.begun, next.begun);
        tasks =
            let so_far : length world.tasks + before.begun ≤ length before.tasks + world.begun = here.tasks in
            let added : length effect.world.tasks ≤ suc (length world.tasks) = more.tasks in
            omega (arith, so_far, added, next.begun);
      })
      (does-next (handler_names script) (counted world) present action)
      (does-done (λ (it : Observation). ⊤) 0 (handler_names script) (counted world) present action);
  none = tt;
}

module _ (script : Script) (before : World) where
  call-fits : (document : ℕ) (handler : Option ℕ) (handed : Entries) (world : World) → HasFitted before world →
      HasFitted before (call script document handler handed world).state
  call-fits document handler handed world here =
      called-keeps script _ _ (fits-carried script before) document handler handed world (all-so (presents handed)) here

  queue-fits : (entries : List Entry) (observer : ℕ) (world : World) → HasFitted before world →
      HasFitted before (take_queue script entries observer world).state
  queue-fits [] observer world here = here
  queue-fits (entry ∷ entries) observer world here =
      let it = intersection_observer_at (world.intersection_observers) observer in
      call-fits (it.document) (it.handler) (CutEntries observer (entry ∷ entries)) _
      (record { begun = here.begun; tasks = here.tasks })

  notify-fits : (document : ℕ) (world : World) → HasFitted before world → HasFitted before (notify script document world).state
  unfolding notify
  notify-fits document world here =
      only_if-keeps (HasFitted before) (notify_watchers script document) world (is_active (world.tree) document)
      (λ now held. for_each-keeps (HasFitted before) (notify_watcher script) (watchers (now.tree) document (now.intersection_observers))
      (λ observer each there. queue-fits (intersection_observer_at (each.intersection_observers) observer).queue observer each there)
      (record now { notifying = without_notifying document (now.notifying) })
      (record { begun = held.begun; tasks = held.tasks }))
      here

  task-fits : (task : Task) (world : World) → HasFitted before world → HasFitted before (run_task script task world).state
  task-fits (Notify document) world here = notify-fits document world here
  task-fits (Posted document handler) world here =
      then-keeps (HasFitted before) (say _ world) (call script document (Some handler) _) here (call-fits document (Some handler) _)

-- runs of tasks ------------------------------------------------------------------------------------------------------------

less-tasks : (begun now waiting left : ℕ) → begun ≤ now → now ≤ 2000000 → left + begun ≤ waiting + now →
    (2000000 - now) + left < (2000000 - begun) + suc waiting
less-tasks begun now waiting left more most fits = omega (arith, more, most, fits)

pub tasks-begin : (world : World) → IsWithinLimits world → tasks_left world < most_steps
tasks-begin world within = omega (arith, tasks-few world within)

module _ (script : Script) where
  pub task-falls : (world : World) → IsWithinLimits world → has_tasks (world.tasks) ≡ true →
      tasks_left ((run_first script (world.tasks) world).state) < tasks_left world
  task-falls world within some = by (world.tasks) refl some
    where
      by : (tasks : List Task) → world.tasks ≡ tasks → has_tasks tasks ≡ true → tasks_left ((run_first script tasks world).state) < tasks_left world
      by [] are some = absurd (let no : false ≡ true = some in cc)
      by (task ∷ others) are some =
          let taken = record world { tasks = others } in
          let after = (run_task script task taken).state in
          let fitted : HasFitted taken after = task-fits script taken task taken (record { begun = omega arith; tasks = omega arith }) in
          let most : after.begun ≤ 2000000 = subst (λ (tasks : List Task). (run_first script tasks world).state.begun ≤ 2000000) are
          (few-begun (run_first script (world.tasks) world).state (first-within script world within)) in
          subst (λ (tasks : List Task). tasks_left after < (2000000 - world.begun) + length tasks) (sym are)
          (less-tasks (world.begun) (after.begun) (length others) (length after.tasks) (fitted.begun) most (fitted.tasks))

  abbrev pub goes : World → Bool
  goes now = has_tasks (now.tasks)

  abbrev pub step : World → Said World
  step now = run_first script (now.tasks) now

  pub record AreTasksLeft (left : ℕ) (world : World) : Type 0 where
    within : IsWithinLimits world
    most : tasks_left world ≤ left

  pub falls : (left : ℕ) (world : World) → AreTasksLeft left world → goes world ≡ true → (step world).flow ≡ Next → goes (step world).state ≡ true →
      IsLess goes step AreTasksLeft left (step world).state
  falls left world is some next still = record {
    now = tasks_left ((step world).state);
    less = omega (arith, task-falls world (is.within) some, is.most);
    is = record { within = first-within script world (is.within); most = omega arith };
  }

  module _ (world : World) (within : IsWithinLimits world) where
    pub left-first : AreTasksLeft (tasks_left world) world
    left-first = record { within = within; most = omega arith }
