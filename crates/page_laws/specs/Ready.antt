-- What a tick requires of a page, and what each call of a page leaves true.
use Rattle.std.specs.Prelude.{ℕ, ◌∷◌}
use Rattle.page_model.specs.World.{Task, World}
use Rattle.page_model.specs.Ranges.{IsInRange}
use Rattle.page_laws.specs.Bounds.{IsWithinLimits}

-- each number in the world refers to something that exists, with the given number of handlers, and the world is within its limits
unfoldable pub IsReadyFor : ℕ → World → Type 0
IsReadyFor handlers world = IsInRange handlers world × IsWithinLimits world

-- a world with a task queued before all others
abbrev pub with_first : Task → World → World
with_first task world = record world { tasks = task ∷ world.tasks }
