use Rattle.std.proofs.Common.{◌≤◌, ◌+◌}
use Rattle.observer_tests.proofs.event_tables_tests.see_timers.Given as goal

abbrev pub invariant-loop-step : goal.invariant-loop-step
invariant-loop-step g l = l.timers.part.given ≤ l.step-index + 4
