-- Running the queued tasks, and how many more tasks there can be (HTML, 8.1.7).
use Rattle.std.specs.Prelude.{ℕ, ◌+◌, ◌-◌, length}
use Rattle.page_model.specs.World.{World}
use Rattle.page_model.specs.Tasks.{has_tasks}
use Rattle.page_model.specs.Runs.{Said, ◌followed_by◌, repeat}
use Rattle.page_model.specs.Callbacks.{Script, call}
use Rattle.page_model.specs.Intersections.{notify}
use Rattle.page_model.specs.Ticks.{run_first}
use Rattle.loop_laws.specs.Rounds.{most_commands}

-- takes off the first task and runs it, as long as there is one and at most `most` times
unfoldable pub tasks_up_to : ℕ → Script → World → Said World
unfolding repeat notify call ◌followed_by◌
tasks_up_to most script world = repeat (λ now. has_tasks (now.tasks)) (λ now. run_first script (now.tasks) now) most world

-- an upper bound on the tasks that can still be run: those that are queued, and one for each command that can still begin
abbrev pub tasks_left : World → ℕ
tasks_left world = (most_commands - world.begun) + length world.tasks
