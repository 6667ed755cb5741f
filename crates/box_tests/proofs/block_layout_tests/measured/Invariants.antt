-- The ledger of the counter is the one that its blank opens.
use Rattle.box_tests.proofs.block_layout_tests.measured.Given as goal

abbrev pub ghosts-measured_for : goal.ghosts-measured_for
ghosts-measured_for g a = record { name = a.blank.name; parts = a.blank.parts }
