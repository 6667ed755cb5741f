-- Places among a document's observers, and the observers' numbers.
use Rattle.std.specs.Prelude.{◌≡◌, ℕ, filter, length, take}
use Rattle.page_model.specs.World.{ResizeObservers}
use Rattle.page_model.specs.Gathering.{is_of}
use Rattle.depth_gather.specs.Deliveries.{Turn}
use Rattle.depth_gather.specs.declared.turns.Found.{Found}

abbrev pub found_turn : Found → Turn
found_turn found = record { observer = found.observer.0; place = found.place }

-- the place of the document's first observer from this number on is the number of its observers before that
abbrev pub IsNext : ℕ → ℕ → ℕ → ResizeObservers → Type 0
IsNext document place number it = place ≡ length (filter (is_of document) (take number it.made))
