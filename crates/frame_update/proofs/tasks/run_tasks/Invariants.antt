use Rattle.page_model.specs.Callbacks.{Script}
use Rattle.page_model.specs.Runs.{most_steps}
use Rattle.page_model.specs.Ticks.{run_tasks}
use Rattle.loop_laws.specs.TaskRuns.{tasks_left, tasks_up_to}
use Rattle.frame_update.proofs.Going.{IsOnItsWay}
use Rattle.frame_update.proofs.tasks.run_tasks.Given as goal

-- the tasks up to here were run, and those that wait follow
abbrev pub invariant-loop-task : goal.invariant-loop-task
invariant-loop-task g l =
    IsOnItsWay g.K.Sink.taken g.K.Sink.faults l.fn.run l.run (λ (script : Script). run_tasks script l.fn.run.page.now.world) (λ (script : Script). tasks_up_to most_steps script l.run.page.now.world)

abbrev pub decreases-loop-task : goal.decreases-loop-task
decreases-loop-task g l = tasks_left l.run.page.now.world
