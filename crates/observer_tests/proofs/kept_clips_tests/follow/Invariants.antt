-- The ledger of the test's counter is the one that its blank opens.
use Rattle.observer_tests.proofs.kept_clips_tests.follow.Given as goal

abbrev pub ghosts-ask : goal.ghosts-ask
ghosts-ask g a = record { name = a.blank.name; parts = a.blank.parts }
