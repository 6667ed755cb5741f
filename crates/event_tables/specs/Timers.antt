-- Timers that are handed out (HTML, timers).
use Rattle.std.specs.Prelude.{ℕ, Bool, List, Option, Some, None, min, fold}
use Rattle.page_model.specs.World.{FrameCallback, Timer, Table}
use Rattle.page_model.specs.Timers.{timer_stands, timer_taken}

-- a timer without its due time
abbrev pub callback_of : Timer → FrameCallback
callback_of timer = record { serial = timer.serial; document = timer.document; key = timer.key; handler = timer.handler }

-- a timer that runs like the one that this was copied from
abbrev pub timer_of : FrameCallback → Timer
timer_of callback =
    record { serial = callback.serial; document = callback.document; key = callback.key; due = 0; handler = callback.handler }

-- whether the timer that this was copied from is still there
abbrev pub copied_stands : Table Timer → FrameCallback → Bool
copied_stands timers callback = timer_stands (timer_of callback) timers

-- the timers after this one, if any, was handed out
abbrev pub once_handed : Option FrameCallback → Table Timer → Table Timer
once_handed None timers = timers
once_handed (Some callback) timers = timer_taken (callback.serial) timers

-- what is returned of a timer that is handed out: its document, its key and its handler
abbrev pub told : FrameCallback → ℕ × List ℕ × ℕ
told callback = (callback.document, callback.key, callback.handler)

-- the earlier of two times, of which the first may be missing
abbrev pub sooner : Option ℕ → ℕ → Option ℕ
sooner None time = Some time
sooner (Some first) time = Some (min first time)

-- the earliest time at which a timer is due, if there are timers
abbrev pub soonest : Table Timer → Option ℕ
soonest timers = fold (λ time (timer : Timer). sooner time timer.due) None (timers.held)
