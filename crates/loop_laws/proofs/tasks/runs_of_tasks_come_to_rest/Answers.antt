-- The measure falls with each task.
use Rattle.page_model.specs.Runs.{most_steps}
use Rattle.page_model.specs.Ticks.{run_tasks}
use Rattle.page_laws.proofs.Places.{repeat-not}
use Rattle.loop_laws.specs.TaskRuns.{tasks_up_to}
use Rattle.loop_laws.proofs.Bounded.{same-bounds, unrolled, rests}
use Rattle.loop_laws.proofs.TasksAtRest.{task-falls, tasks-begin, goes, step, falls, left-first}
use Rattle.loop_laws.proofs.tasks.runs_of_tasks_come_to_rest.Goals as goal

pub returns-clause-falls : goal.returns-clause-falls
returns-clause-falls c = task-falls

pub returns-clause-begins : goal.returns-clause-begins
returns-clause-begins c = tasks-begin

pub returns-clause-same : goal.returns-clause-same
unfolding tasks_up_to
returns-clause-same c script world within most more fits fits' = same-bounds _ _ _ (falls script) most more _ world (left-first script world within) fits fits'

pub returns-clause-unrolled : goal.returns-clause-unrolled
unfolding tasks_up_to
returns-clause-unrolled c script world within most fits some = unrolled _ _ _ (falls script) most _ world (left-first script world within) fits some

pub returns-clause-ended : goal.returns-clause-ended
unfolding tasks_up_to
returns-clause-ended c script world most ends = repeat-not (goes script) (step script) most world ends

pub returns-clause-rests : goal.returns-clause-rests
unfolding tasks_up_to
returns-clause-rests c script world within most fits next = rests _ _ _ (falls script) most _ world (left-first script world within) fits next

pub returns-clause-runs : goal.returns-clause-runs
unfolding run_tasks tasks_up_to
returns-clause-runs c script world within most fits =
    same-bounds _ _ _ (falls script) most_steps most _ world (left-first script world within) (tasks-begin world within) fits
