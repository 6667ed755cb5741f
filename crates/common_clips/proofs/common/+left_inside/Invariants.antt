use Rattle.common_clips.proofs.common.+left_inside.Given as goal

abbrev pub decreases-left_inside : goal.decreases-left_inside
decreases-left_inside g l = g.G.Geometry.rank l.geometry.now l.spot
