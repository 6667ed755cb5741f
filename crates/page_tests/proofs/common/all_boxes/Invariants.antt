-- The ledger of the counter is the one that its blank opens.
use Rattle.page_tests.proofs.common.all_boxes.Given as goal

abbrev pub ghosts-renew : goal.ghosts-renew
ghosts-renew g a = record { name = a.blank.name; parts = a.blank.parts }
