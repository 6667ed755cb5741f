-- The turns of a page's resize observers, by the sizes in its world as it is now (Resize Observer, 3.4).
use Rattle.std.specs.Prelude.{ℕ, Option}
use Rattle.page_model.specs.World.{World}
use Rattle.page_model.specs.Gathering.{sight_of}
use Rattle.depth_gather.specs.Deliveries.{Turn, turn_from, reporting_turn}

-- the world after the observer whose turn it is, if any, was given its entries
abbrev pub once_reported : Option Turn → World → World
once_reported turn world = record world { resize_observers = reporting_turn (sight_of world) turn (world.resize_observers) }

-- the first turn at or after a place among the observers of a document
abbrev pub next_turn : ℕ → ℕ → World → Option Turn
next_turn document place world = turn_from document place (world.resize_observers)
