use Rattle.std.proofs.Common.{◌≤◌}
use Rattle.observer_tests.proofs.depth_gather_tests.see_steps.Given as goal

-- a step gives one serial number at most
abbrev pub invariant-loop-step : goal.invariant-loop-step
invariant-loop-step g l = l.observers.part.given ≤ l.step-index
