-- The ledger of the counter is the one that its blank opens.
use Rattle.box_tests.proofs.readme_examples.see_content_counted.Given as goal

abbrev pub ghosts-see_content : goal.ghosts-see_content
ghosts-see_content g a = record { name = a.blank.name; parts = a.blank.parts }
