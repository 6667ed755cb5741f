-- The ledger of the counter is the one that its blank opens.
use Rattle.box_tests.proofs.block_layout_tests.fill.Given as goal

abbrev pub ghosts-fill_for : goal.ghosts-fill_for
ghosts-fill_for g a = record { name = a.blank.name; parts = a.blank.parts }
