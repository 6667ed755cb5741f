-- What was gathered has the paths that it had, so it stays deeper.
use Rattle.loop_laws.proofs.Depths.{rounds-go-deeper}
use Rattle.loop_laws.proofs.deepening.rounds_go_deeper.Goals as goal

pub returns : goal.returns
returns c = rounds-go-deeper
