-- The ledger of the count of steps is the one that its blank opens.
use Rattle.live_page.proofs.live.LivePage.update_intersections.Given as goal

abbrev pub ghosts-update_counted : goal.ghosts-update_counted
ghosts-update_counted a = record { name = a.blank.name; parts = a.blank.parts }
