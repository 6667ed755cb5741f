-- The ledger of the count of steps is the one that its blank opens.
use Rattle.live_page.proofs.live.LivePage.tick.Given as goal

abbrev pub ghosts-tick_counted : goal.ghosts-tick_counted
ghosts-tick_counted g a = record { name = a.blank.name; parts = a.blank.parts }
