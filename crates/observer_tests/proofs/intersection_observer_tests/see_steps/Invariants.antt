use Rattle.std.proofs.Common.{◌≤◌, ◌*◌}
use Rattle.observer_tests.proofs.intersection_observer_tests.see_steps.Given as goal

-- a step gives one serial number at most, and it is tried twice at most
abbrev pub invariant-loop-row : goal.invariant-loop-row
invariant-loop-row g l = l.watchers.part.given ≤ 2 * l.row-index
