use Rattle.std.proofs.Common.{◌≤◌}
use Rattle.observer_tests.proofs.event_tables_tests.add_many.Given as goal

abbrev pub invariant-loop-document : goal.invariant-loop-document
invariant-loop-document l = l.timers.part.given ≤ l.document
