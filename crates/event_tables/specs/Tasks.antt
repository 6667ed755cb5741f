-- The queued tasks, and the limit on posted ones.
use Rattle.std.specs.Prelude.{ℕ, Bool, not, ◌||◌, nat_lt, List, [], ◌∷◌, Option, Some, None}
use Rattle.page_model.specs.World.{Task}
use Rattle.page_model.specs.Tasks.{is_posted, posted_tasks}

-- the queued tasks in order, and how many posted ones there may be
pub record WaitingTasks : Type 0 where
  pub part : List Task
  pub most : ℕ

-- whether one more posted task may be queued
abbrev pub has_room : WaitingTasks → Bool
has_room it = nat_lt (posted_tasks it.part) it.most

-- whether a task may be queued: a notify task always may
abbrev pub may_queue : Task → WaitingTasks → Bool
may_queue task it = not (is_posted task) || has_room it

-- the first task and the others
abbrev pub first_of : List Task → Option Task
first_of [] = None
first_of (task ∷ others) = Some task

abbrev pub others_of : List Task → List Task
others_of [] = []
others_of (task ∷ others) = others
