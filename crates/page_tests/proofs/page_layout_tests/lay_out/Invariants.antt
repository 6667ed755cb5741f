-- The ledger of the test's counter is the one that its blank opens.
use Rattle.page_tests.proofs.page_layout_tests.lay_out.Given as goal

abbrev pub ghosts-renew : goal.ghosts-renew
ghosts-renew a = record { name = a.blank.name; parts = a.blank.parts }
