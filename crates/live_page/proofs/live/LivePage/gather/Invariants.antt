-- The ledger of the count of steps is the one that its blank opens.
use Rattle.live_page.proofs.live.LivePage.gather.Given as goal

abbrev pub ghosts-gather_counted : goal.ghosts-gather_counted
ghosts-gather_counted a = record { name = a.blank.name; parts = a.blank.parts }
