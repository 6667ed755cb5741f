-- The ledger of the run is the one that its blank opens.
use Rattle.run_tests.proofs.page_listing_tests.page_of.Given as goal

abbrev pub ghosts-run_uncounted : goal.ghosts-run_uncounted
ghosts-run_uncounted g a = record { name = a.blank.name; parts = a.blank.parts }
