-- The ledger of the counter is the one that its blank opens.
use Rattle.page_tests.proofs.readme_examples.see_height_counted.Given as goal

abbrev pub ghosts-see_height : goal.ghosts-see_height
ghosts-see_height g a = record { name = a.blank.name; parts = a.blank.parts }
