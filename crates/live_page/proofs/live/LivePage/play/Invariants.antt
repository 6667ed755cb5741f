-- The ledger of the count of steps is the one that its blank opens.
use Rattle.live_page.proofs.live.LivePage.play.Given as goal

abbrev pub ghosts-play_counted : goal.ghosts-play_counted
ghosts-play_counted g a = record { name = a.blank.name; parts = a.blank.parts }
