-- The ledger of a counter is the one that its blank opens.
use Rattle.observer_tests.proofs.candidate_index_tests.inquire.Given as goal

abbrev pub ghosts-ask : goal.ghosts-ask
ghosts-ask g a = record { name = a.blank.name; parts = a.blank.parts }

abbrev pub ghosts-find : goal.ghosts-find
ghosts-find g a = record { name = a.blank.name; parts = a.blank.parts }
