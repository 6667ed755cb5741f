-- By the law of a round.
use Rattle.loop_laws.proofs.Loops.{loop-ends}
use Rattle.loop_laws.proofs.deepening.loops_have_few_rounds.Goals as goal

pub returns : goal.returns
returns c = loop-ends
