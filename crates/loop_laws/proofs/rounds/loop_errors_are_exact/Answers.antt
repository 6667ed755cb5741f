-- What isn't active as the rounds end is skipped.
use Rattle.loop_laws.proofs.Loops.{errors-exact}
use Rattle.loop_laws.proofs.rounds.loop_errors_are_exact.Goals as goal

pub returns : goal.returns
returns c = errors-exact
