use Rattle.clip_chain.proofs.Worlds.{clips_are, part_is}
use Rattle.clip_chain.proofs.laws.chains_are_those_of_any_world.Goals as goal

pub returns-clause-clips : goal.returns-clause-clips
returns-clause-clips c = clips_are

pub returns-clause-part : goal.returns-clause-part
returns-clause-part c = part_is
