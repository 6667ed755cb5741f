-- Queued tasks, and which documents have a notify task queued (HTML, 8.1.7; Intersection Observer, 3.2: queue an intersection
-- observer task).
use Rattle.std.specs.Prelude.{ℕ, Bool, true, false, List, [], ◌∷◌, ◌++◌, count_by}
use Rattle.page_model.specs.World.{Task, Notify, Posted}
use Rattle.page_model.specs.Lookups.{entry_or, put_at, change_at}

abbrev pub is_posted : Task → Bool
is_posted (Notify document) = false
is_posted (Posted document handler) = true

-- the number of posted tasks that are queued
abbrev pub posted_tasks : List Task → ℕ
posted_tasks tasks = count_by is_posted tasks

abbrev pub with_task : Task → List Task → List Task
with_task task tasks = tasks ++ task ∷ []

abbrev pub has_tasks : List Task → Bool
has_tasks [] = false
has_tasks (task ∷ others) = true

-- whether a document has a notify task queued
abbrev pub is_notifying : ℕ → List Bool → Bool
is_notifying document flags = entry_or false flags document

abbrev pub with_notifying : ℕ → List Bool → List Bool
with_notifying document flags = put_at false document true flags

abbrev pub without_notifying : ℕ → List Bool → List Bool
without_notifying document flags = change_at (λ (flag : Bool). false) document flags
