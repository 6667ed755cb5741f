-- The ledger of a test's run is the one that its blank opens.
use Rattle.run_tests.proofs.replay_run_tests.replayed.Given as goal

abbrev pub ghosts-run_uncounted : goal.ghosts-run_uncounted
ghosts-run_uncounted a = record { name = a.blank.name; parts = a.blank.parts }
