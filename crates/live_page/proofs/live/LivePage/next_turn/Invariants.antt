-- The ledger of the count of steps is the one that its blank opens.
use Rattle.live_page.proofs.live.LivePage.next_turn.Given as goal

abbrev pub ghosts-next_counted : goal.ghosts-next_counted
ghosts-next_counted a = record { name = a.blank.name; parts = a.blank.parts }
