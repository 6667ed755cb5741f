-- The limits that every world of a run is within, and that no loop over a list by index is cut off by the bound on its recursion.
use Rattle.std.specs.Prelude.{ℕ, suc, ◌≤◌, ◌&&◌, nat_lt, Bool, not, List, length, count_by}
use Rattle.text_io.specs.Limits.{limit_number}
use Rattle.text_io.specs.declared.kinds.LimitKind.TheVariants as limits
use Rattle.page_model.specs.World.{Task, World}
use Rattle.page_model.specs.Tasks.{is_posted, posted_tasks}
use Rattle.page_model.specs.Runs.{Said, at_place, lifted, repeat}

-- the number of notify tasks that are queued
abbrev pub notify_tasks : List Task → ℕ
notify_tasks tasks = count_by (λ task. not (is_posted task)) tasks

-- there are no more documents, marks and posted tasks than the limits allow, and no more notify tasks than documents that are marked
pub record AreTasksWithin (world : World) : Type 0 where
  pub documents : length world.tree.documents ≤ limit_number (world.version) limits.Documents
  pub marks : length world.notifying ≤ limit_number (world.version) limits.Documents
  pub posted : posted_tasks world.tasks ≤ limit_number (world.version) limits.Tasks
  pub notifying : notify_tasks world.tasks ≤ count_by (λ marked. marked) world.notifying

-- there are no more of the things that a tick iterates over by index, no more commands begun and no more tasks than the limits allow
pub record IsWithinLimits (world : World) : Type 0 where
  pub resize_observers : length world.resize_observers.made ≤ limit_number (world.version) limits.ResizeObservers
  pub queries : length world.queries ≤ limit_number (world.version) limits.Queries
  pub commands : world.begun ≤ limit_number (world.version) limits.Commands
  pub tasks : AreTasksWithin world

-- `by_place` with a given bound on its turns
unfoldable pub places_up_to : {S : Type 0} → ℕ → (S → ℕ) → (S → Bool) → (ℕ → S → Said S) → S → Said S
unfolding repeat
places_up_to most count goes_on step state =
    lifted (λ turn. turn.state)
    (repeat
    (λ turn. goes_on (turn.state) && nat_lt (turn.place) (count (turn.state)))
    (λ turn. lifted (at_place (suc turn.place)) (step (turn.place) (turn.state)))
    most
    (at_place 0 state))
