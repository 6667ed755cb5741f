-- Timers (HTML, timers): by document and key, in the order in which they were set.
use Rattle.std.specs.Prelude.{ℕ, Bool, cond, ◌&&◌, not, ◌==◌, nat_le, List, [], ◌∷◌, filter, bytes_eq}
use Rattle.std.specs.List.{list_any}
use Rattle.page_model.specs.World.{Timer, Table}
use Rattle.page_model.specs.Lookups.{entered, kept}

abbrev pub is_timer : ℕ → List ℕ → Timer → Bool
is_timer document key timer = document == timer.document && bytes_eq key timer.key

abbrev pub is_timer_set : ℕ → List ℕ → Table Timer → Bool
is_timer_set document key timers = list_any (is_timer document key) timers.held

abbrev pub with_timer : ℕ → List ℕ → ℕ → ℕ → Table Timer → Table Timer
with_timer document key due handler timers =
    entered (λ serial. record { serial = serial; document = document; key = key; due = due; handler = handler }) timers

abbrev pub without_timer : ℕ → List ℕ → Table Timer → Table Timer
without_timer document key timers = kept (λ each. not (is_timer document key each)) timers

abbrev pub put_timer : Timer → List Timer → List Timer
put_timer timer [] = timer ∷ []
put_timer timer (first ∷ others) = cond (nat_le timer.due first.due) (timer ∷ first ∷ others) (first ∷ put_timer timer others)

-- sorted by due time; timers with equal due times keep their order in the list, which is that of creation
abbrev pub by_due_time : List Timer → List Timer
by_due_time [] = []
by_due_time (timer ∷ others) = put_timer timer (by_due_time others)

-- the timers that are due at a time, in the order in which they run
abbrev pub due_timers : ℕ → Table Timer → List Timer
due_timers now timers = by_due_time (filter (λ (timer : Timer). nat_le timer.due now) (timers.held))

-- whether a timer that was copied is still in the list: one that was cleared and set again is a different one
abbrev pub timer_stands : Timer → Table Timer → Bool
timer_stands timer timers = list_any (λ (each : Timer). each.serial == timer.serial) (timers.held)

-- without the timer that is about to run, given by its serial number
abbrev pub timer_taken : ℕ → Table Timer → Table Timer
timer_taken serial timers = kept (λ (each : Timer). not (each.serial == serial)) timers
