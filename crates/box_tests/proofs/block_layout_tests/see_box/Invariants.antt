-- The ledger of the counter is the one that its blank opens.
use Rattle.box_tests.proofs.block_layout_tests.see_box.Given as goal

abbrev pub ghosts-computed : goal.ghosts-computed
ghosts-computed g a = record { name = a.blank.name; parts = a.blank.parts }
