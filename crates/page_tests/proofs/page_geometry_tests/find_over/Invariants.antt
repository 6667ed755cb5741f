-- The ledger of the counter is the one that its blank opens.
use Rattle.page_tests.proofs.page_geometry_tests.find_over.Given as goal

abbrev pub ghosts-find_anew : goal.ghosts-find_anew
ghosts-find_anew g a = record { name = a.blank.name; parts = a.blank.parts }
