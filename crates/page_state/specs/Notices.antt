-- The notify tasks of documents: what is queued while intersections are updated, and what a document is told of (Intersection
-- Observer, 3.2.5: queue an intersection observer task).
use Rattle.std.specs.Prelude.{◌≡◌, ℕ, Bool, true, cond}
use Rattle.page_model.specs.World.{World, Notify}
use Rattle.page_model.specs.Intersections.{with_notify_task}
use Rattle.page_model.specs.Tasks.{is_notifying, with_task}
use Rattle.intersection_update.specs.Watching.{have_entries}

-- with a document's notify task queued, if it is
abbrev pub with_task_if : Bool → ℕ → World → World
with_task_if queued document world = cond queued (record world { tasks = with_task (Notify document) (world.tasks) }) world

-- with a document told, if it is, unless its task is queued already
abbrev pub once_told : Bool → ℕ → World → World
once_told tells document world = cond tells (with_notify_task document (is_notifying document (world.notifying)) world) world

-- no entry waits unnoticed: where one waits at an observer that is updated with the document, the document's notify task is queued
abbrev pub IsNoticed : ℕ → World → Type 0
IsNoticed document world = have_entries world.tree document world.intersection_observers ≡ true → is_notifying document world.notifying ≡ true
