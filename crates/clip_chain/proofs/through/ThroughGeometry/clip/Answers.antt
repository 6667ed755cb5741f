use Rattle.clip_chain.proofs.Moving.{root_range}
use Rattle.clip_chain.proofs.through.ThroughGeometry.clip.Goals as goal

pub dilate-requires : goal.dilate-requires
dilate-requires g c = root_range c.in_ok-clip.clip (c.in_ok-clip.ensures.range c.is_moved.ensures.before)

pub returns-else-is_moved-clause-range : goal.returns-else-is_moved-clause-range
returns-else-is_moved-clause-range g c = λ unmoved. c.in_ok-clip.ensures.range c.is_moved.ensures.before
