use Rattle.std.proofs.Common.{◌≤◌}
use Rattle.observer_tests.proofs.resize_observer_tests.see_steps.Given as goal

-- a step gives one serial number at most
abbrev pub invariant-loop-row : goal.invariant-loop-row
invariant-loop-row g l = l.observers.part.given ≤ l.row-index
