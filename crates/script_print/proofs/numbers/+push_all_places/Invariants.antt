use Rattle.script_print.proofs.numbers.+push_all_places.Given as goal

abbrev pub decreases-push_all_places : goal.decreases-push_all_places
decreases-push_all_places l = l.places
