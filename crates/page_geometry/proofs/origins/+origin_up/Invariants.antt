use Rattle.page_geometry.proofs.origins.+origin_up.Given as goal

abbrev pub decreases-origin_up : goal.decreases-origin_up
decreases-origin_up l = l.high
