use Rattle.std.proofs.Common.{◌≤◌, ◌+◌}
use Rattle.observer_tests.proofs.event_tables_tests.see_requests.Given as goal

abbrev pub invariant-loop-step : goal.invariant-loop-step
invariant-loop-step g l = l.callbacks.part.given ≤ l.step-index + 3
