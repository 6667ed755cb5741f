-- The ledger of the counter is the one that its blank opens.
use Rattle.box_tests.proofs.kept_layout_tests.lay_out.Given as goal

abbrev pub ghosts-lay_out_for : goal.ghosts-lay_out_for
ghosts-lay_out_for g a = record { name = a.blank.name; parts = a.blank.parts }
