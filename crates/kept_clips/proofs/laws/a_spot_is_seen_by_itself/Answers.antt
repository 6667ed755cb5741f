use Rattle.kept_clips.proofs.Seeing.{differs_there, agrees_here}
use Rattle.kept_clips.proofs.laws.a_spot_is_seen_by_itself.Goals as goal

pub returns-clause-differs : goal.returns-clause-differs
returns-clause-differs c = differs_there

pub returns-clause-agrees : goal.returns-clause-agrees
returns-clause-agrees c = agrees_here
