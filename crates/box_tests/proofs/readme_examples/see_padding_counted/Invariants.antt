-- The ledger of the counter is the one that its blank opens.
use Rattle.box_tests.proofs.readme_examples.see_padding_counted.Given as goal

abbrev pub ghosts-see_padding : goal.ghosts-see_padding
ghosts-see_padding g a = record { name = a.blank.name; parts = a.blank.parts }
