-- The ledger of a test's run is the one that its blank opens.
use Rattle.run_tests.proofs.handlers_tests.run_alone.Given as goal

abbrev pub ghosts-run_text : goal.ghosts-run_text
ghosts-run_text a = record { name = a.blank.name; parts = a.blank.parts }
