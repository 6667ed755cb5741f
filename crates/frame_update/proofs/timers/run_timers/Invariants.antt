use Rattle.std.proofs.Common.{length}
use Rattle.page_model.specs.Callbacks.{Script}
use Rattle.page_model.specs.Ticks.{run_timers}
use Rattle.frame_update.proofs.DueTimers.{timers_left}
use Rattle.frame_update.proofs.Going.{IsOnItsWay}
use Rattle.frame_update.proofs.timers.run_timers.Given as goal

-- the timers up to here were run, and those of the batch that still stand follow
abbrev pub invariant-loop-timer : goal.invariant-loop-timer
invariant-loop-timer g l =
    IsOnItsWay g.K.Sink.taken g.K.Sink.faults l.fn.run l.run (λ (script : Script). run_timers script l.fn.run.page.now.world) (λ (script : Script). timers_left script l.due l.run.page.now.world)

abbrev pub decreases-loop-timer : goal.decreases-loop-timer
decreases-loop-timer g l = length l.due
