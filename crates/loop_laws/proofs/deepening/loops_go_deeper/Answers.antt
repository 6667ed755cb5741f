-- By the law of a round.
use Rattle.loop_laws.proofs.Loops.{loop-goes-deeper}
use Rattle.loop_laws.proofs.deepening.loops_go_deeper.Goals as goal

pub returns : goal.returns
returns c = loop-goes-deeper
