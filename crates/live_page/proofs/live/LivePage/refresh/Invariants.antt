-- The ledger of the count of steps is the one that its blank opens.
use Rattle.live_page.proofs.live.LivePage.refresh.Given as goal

abbrev pub ghosts-refresh_counted : goal.ghosts-refresh_counted
ghosts-refresh_counted a = record { name = a.blank.name; parts = a.blank.parts }
