-- The ledger of the counter is the one that its blank opens.
use Rattle.page_tests.proofs.page_boxes_tests.size_some.Given as goal

abbrev pub ghosts-renew_for : goal.ghosts-renew_for
ghosts-renew_for g a = record { name = a.blank.name; parts = a.blank.parts }
