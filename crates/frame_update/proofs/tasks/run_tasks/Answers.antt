use Rattle.std.proofs.Common.{◌∙◌, ap, refl}
use Rattle.std.specs.Prelude.{length}
use Rattle.script_model.specs.Scripts.{handlers_in}
use Rattle.page_model.specs.Runs.{most_steps, silent}
use Rattle.page_model.specs.Callbacks.{Script}
use Rattle.loop_laws.specs.TaskRuns.{tasks_up_to}
use Rattle.page_state.specs.Views.{PageView}
use Rattle.event_tables.specs.Seen.{seen_task}
use Rattle.page_laws.specs.Ready.{with_first}
use Rattle.page_laws.proofs.Ready.{ready-of}
use Rattle.frame_update.proofs.Ready.{prepared, still_prepared}
use Rattle.frame_update.proofs.QueuedTasks.{fewer_tasks, none_waits, same_page, task_waits, tasks_more}
use Rattle.frame_update.proofs.Going.{run_begins, run_goes_on, run_is_cut, run_is_done}
use Rattle.frame_update.proofs.tasks.run_tasks.Goals as goal

pub loop-task-init : goal.loop-task-init
loop-task-init g c =
    run_begins refl c.requires.ready
    (c.runs_of_tasks_come_to_rest.ensures.runs (handlers_in c.args.run.now.script.now.items) c.args.run.now.page.now.world c.requires.ready.limits most_steps
    (c.runs_of_tasks_come_to_rest.ensures.begins c.args.run.now.page.now.world c.requires.ready.limits))

pub run_task-requires : goal.run_task-requires
run_task-requires g c = record {
  ready =
      let handlers = length (handlers_in c.loop-task.run.script.now.items) in
      let before = c.loop-task.invariant.ready in
      prepared c.loop-task.run.script.now.items (with_first (seen_task c.in-Some.task) c.pop_task.new.self.world)
      (c.in-Some.ensures.task handlers (ready-of handlers c.loop-task.run.page.now.world before.range before.limits));
}

pub loop-task-smaller : goal.loop-task-smaller
loop-task-smaller g c = fewer_tasks (handlers_in c.loop-task.run.script.now.items) c.loop-task.run.page.now.world (seen_task c.in-Some.task) c.pop_task.new.self.world c.in-Some.ensures.value (ap (λ (page : PageView). page.world) c.pop_task.ensures.left) (c.runs_of_tasks_come_to_rest.ensures.falls (handlers_in c.loop-task.run.script.now.items) c.loop-task.run.page.now.world c.loop-task.invariant.ready.limits (task_waits (handlers_in c.loop-task.run.script.now.items) c.loop-task.run.page.now.world (seen_task c.in-Some.task) c.pop_task.new.self.world c.in-Some.ensures.value (ap (λ (page : PageView). page.world) c.pop_task.ensures.left))) c.in_ok-run_task.ensures.says

pub loop-task-preserved : goal.loop-task-preserved
loop-task-preserved g c =
    run_goes_on c.loop-task.invariant c.in_ok-run_task.ensures refl (λ (script : Script). tasks_up_to most_steps script)
    (tasks_more (handlers_in c.loop-task.run.script.now.items) c.loop-task.run.page.now.world (seen_task c.in-Some.task) c.pop_task.new.self.world c.in-Some.ensures.value (ap (λ (page : PageView). page.world) c.pop_task.ensures.left)
    (c.runs_of_tasks_come_to_rest.ensures.unrolled (handlers_in c.loop-task.run.script.now.items) c.loop-task.run.page.now.world c.loop-task.invariant.ready.limits most_steps (c.runs_of_tasks_come_to_rest.ensures.begins c.loop-task.run.page.now.world c.loop-task.invariant.ready.limits)
    (task_waits (handlers_in c.loop-task.run.script.now.items) c.loop-task.run.page.now.world (seen_task c.in-Some.task) c.pop_task.new.self.world c.in-Some.ensures.value (ap (λ (page : PageView). page.world) c.pop_task.ensures.left))))

pub returns-in_err-run_task : goal.returns-in_err-run_task
returns-in_err-run_task g c =
    run_is_cut c.loop-task.invariant c.in_err-run_task.ensures refl (λ (script : Script). tasks_up_to most_steps script)
    (tasks_more (handlers_in c.loop-task.run.script.now.items) c.loop-task.run.page.now.world (seen_task c.in-Some.task) c.pop_task.new.self.world c.in-Some.ensures.value (ap (λ (page : PageView). page.world) c.pop_task.ensures.left)
    (c.runs_of_tasks_come_to_rest.ensures.unrolled (handlers_in c.loop-task.run.script.now.items) c.loop-task.run.page.now.world c.loop-task.invariant.ready.limits most_steps (c.runs_of_tasks_come_to_rest.ensures.begins c.loop-task.run.page.now.world c.loop-task.invariant.ready.limits)
    (task_waits (handlers_in c.loop-task.run.script.now.items) c.loop-task.run.page.now.world (seen_task c.in-Some.task) c.pop_task.new.self.world c.in-Some.ensures.value (ap (λ (page : PageView). page.world) c.pop_task.ensures.left))))
    c.from_residual.result c.from_residual.ensures

pub returns : goal.returns
returns g c =
    run_is_done c.loop-task.invariant refl (still_prepared c.loop-task.run.script.now.items c.loop-task.run.page.now.world c.pop_task.new.self.world c.in_default.ensures.ready c.loop-task.invariant.ready)
    (c.runs_of_tasks_come_to_rest.ensures.ended (handlers_in c.loop-task.run.script.now.items) c.loop-task.run.page.now.world most_steps (none_waits (handlers_in c.loop-task.run.script.now.items) c.loop-task.run.page.now.world c.pop_task.new.self.world c.in_default.ensures.value (ap (λ (page : PageView). page.world) c.pop_task.ensures.left))
    ∙ ap silent (same_page (handlers_in c.loop-task.run.script.now.items) c.loop-task.run.page.now.world c.pop_task.new.self.world c.in_default.ensures.value (ap (λ (page : PageView). page.world) c.pop_task.ensures.left)))
