-- The ledger of the counter is the one that its blank opens.
use Rattle.box_tests.proofs.readme_examples.see_card_counted.Given as goal

abbrev pub ghosts-see_card : goal.ghosts-see_card
ghosts-see_card g a = record { name = a.blank.name; parts = a.blank.parts }
