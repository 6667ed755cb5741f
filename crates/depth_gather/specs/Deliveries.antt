-- Turns of a document's observers by place, and what a turn delivers (Resize Observer, 3.4: broadcast active
-- observations).
use Rattle.std.specs.Prelude.{ℕ, suc, cond, List, [], ◌∷◌, map, drop, Option, None, Some}
use Rattle.page_model.specs.World.{Observation, ResizeObservers}
use Rattle.page_model.specs.Lookups.{resize_observer_at}
use Rattle.page_model.specs.Gathering.{Sight, is_filled, size_entry, with_reported}
use Rattle.resize_observer.specs.Observers.{observers_of}
use Rattle.depth_gather.specs.Entries.{as_entry}
use Rattle.depth_gather.specs.declared.entries.ResizeEntry.{ResizeEntry}
use Rattle.depth_gather.specs.declared.deliveries.Delivery.{Delivery}

-- an observer whose turn it is, and the place from which the search for the next turn goes on
pub record Turn : Type 0 where
  pub observer : ℕ
  pub place : ℕ

-- the turn of the first of these observers that has something to deliver; `place` is the place of the first one in the list
abbrev pub first_turn : (ℕ → List Observation) → ℕ → List ℕ → Option Turn
first_turn active place [] = None
first_turn active place (observer ∷ others) =
    cond (is_filled (active observer)) (Some (record { observer = observer; place = suc place })) (first_turn active (suc place) others)

abbrev pub active_at : ResizeObservers → ℕ → List Observation
active_at it observer = (resize_observer_at it observer).active

-- the first turn at or after a place among the observers of a document
abbrev pub turn_from : ℕ → ℕ → ResizeObservers → Option Turn
turn_from document place it = first_turn (active_at it) place (drop place (observers_of it document))

abbrev pub turn_of : Delivery → Turn
turn_of delivery = record { observer = delivery.observer.0; place = delivery.place }

-- the entries of an observer's active observations, with the sizes as they are now
abbrev pub entries_in : Sight → List Observation → List ResizeEntry
entries_in sight active = map (λ observation. as_entry (size_entry sight observation)) active

-- the observers after the last reported sizes of one observer's active observations were set to the sizes as they are now
abbrev pub reporting : Sight → ℕ → ResizeObservers → ResizeObservers
reporting sight observer it = with_reported sight observer (active_at it observer) it

-- the observers after the one whose turn it is, if any, was given its entries
abbrev pub reporting_turn : Sight → Option Turn → ResizeObservers → ResizeObservers
reporting_turn sight None it = it
reporting_turn sight (Some turn) it = reporting sight (turn.observer) it
