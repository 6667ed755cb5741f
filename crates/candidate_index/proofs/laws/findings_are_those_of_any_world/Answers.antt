use Rattle.candidate_index.proofs.Worlds.{world_finding}
use Rattle.candidate_index.proofs.laws.findings_are_those_of_any_world.Goals as goal

pub returns : goal.returns
returns c = world_finding
