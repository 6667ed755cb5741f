use Rattle.kept_clips.proofs.Points.{points, whole, nothing}
use Rattle.kept_clips.proofs.clips.Clips.clip_of.Goals as goal

pub returns-clause-points : goal.returns-clause-points
returns-clause-points g c = λ between lead. points (g.G.Geometry.scene c.args.geometry.now) between c.current.result (c.current.ensures.clip between lead)

pub returns-clause-whole : goal.returns-clause-whole
returns-clause-whole g c = λ between lead. whole (g.G.Geometry.scene c.args.geometry.now) between c.current.result (c.current.ensures.clip between lead)

pub returns-clause-nothing : goal.returns-clause-nothing
returns-clause-nothing g c = λ between lead. nothing (g.G.Geometry.scene c.args.geometry.now) between c.current.result (c.current.ensures.clip between lead)
