-- The ledger of the counter is the one that its blank opens.
use Rattle.page_tests.proofs.page_boxes_tests.boxes_in.Given as goal

abbrev pub ghosts-renew_in : goal.ghosts-renew_in
ghosts-renew_in g a = record { name = a.blank.name; parts = a.blank.parts }
