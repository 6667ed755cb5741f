-- The tasks that wait, taken off one after another.
use Rattle.std.proofs.Common.{◌≡◌, ◌∙◌, ℕ, ◌<◌, true, false, List, [], ◌∷◌, Option, refl, ap, sym, subst}
use Rattle.std.specs.Prelude.{Some, None, Ok}
use Rattle.page_model.specs.Callbacks.{Script}
use Rattle.page_model.specs.Runs.{Said, ◌followed_by◌, most_steps}
use Rattle.page_model.specs.Tasks.{has_tasks}
use Rattle.page_model.specs.Ticks.{run_first, run_task}
use Rattle.page_model.specs.World.{Task, World}
use Rattle.event_tables.specs.Tasks.{first_of, others_of}
use Rattle.loop_laws.specs.TaskRuns.{tasks_left, tasks_up_to}
use Rattle.trace_runs.specs.Flows.{goes_on}
use Rattle.trace_runs.specs.Runs.{Runs}

module _ (script : Script) (before : World) where
  -- a task is taken off
  module _ (task : Task) (after : World) (is : Some task ≡ first_of (before.tasks)) (changed : after ≡ record before { tasks = others_of (before.tasks) }) where
    first-in : (tasks : List Task) → Some task ≡ first_of tasks → tasks ≡ task ∷ others_of tasks
    first-in [] is = absurd (cc)
    first-in (first ∷ others) is = let same : first ≡ task = cc in ap (λ (it : Task). it ∷ others) same

    waits-in : (tasks : List Task) → Some task ≡ first_of tasks → has_tasks tasks ≡ true
    waits-in [] is = absurd (cc)
    waits-in (first ∷ others) is = refl

    pub task_waits : has_tasks (before.tasks) ≡ true
    task_waits = waits-in (before.tasks) is

    first_is : run_first script (before.tasks) before ≡ run_task script task after
    first_is = ap (λ (tasks : List Task). run_first script tasks before) (first-in (before.tasks) is) ∙ ap (run_task script task) (sym changed)

    -- it is run, and then the others
    pub tasks_more : tasks_up_to most_steps script before ≡ (run_first script (before.tasks) before followed_by tasks_up_to most_steps script)
        → tasks_up_to most_steps script before ≡ (run_task script task after followed_by tasks_up_to most_steps script)
    tasks_more unrolled = unrolled ∙ ap (λ (said : Said World). said followed_by tasks_up_to most_steps script) first_is

    -- fewer tasks are left behind it
    pub fewer_tasks : {mid now : Option (List ℕ)} {fm g : ℕ} {A : Type 0} {new : World} {value : A} → tasks_left ((run_first script (before.tasks) before).state) < tasks_left before
        → Runs goes_on new (Ok value) mid now fm g (run_task script task after) → tasks_left new < tasks_left before
    fewer_tasks fewer run = subst (λ (world : World). tasks_left world < tasks_left before) (ap (λ (said : Said World). said.state) first_is ∙ run.ended.state_is) fewer

  -- no task waits
  module _ (after : World) (is : None ≡ first_of (before.tasks)) (changed : after ≡ record before { tasks = others_of (before.tasks) }) where
    none-in : (tasks : List Task) → None ≡ first_of tasks → tasks ≡ []
    none-in [] is = refl
    none-in (first ∷ others) is = absurd (cc)

    pub none_waits : has_tasks (before.tasks) ≡ false
    none_waits = ap has_tasks (none-in (before.tasks) is)

    pub same_page : before ≡ after
    same_page =
        ap (λ (tasks : List Task). record before { tasks = tasks }) (none-in (before.tasks) is)
        ∙ sym (ap (λ (tasks : List Task). record before { tasks = others_of tasks }) (none-in (before.tasks) is))
        ∙ sym changed
