-- Handler by handler.
use Rattle.loop_lint.proofs.Holding.{lines-same}
use Rattle.loop_lint.proofs.laws.verdicts_rest_on_handlers.Goals as goal

pub returns : goal.returns
returns c = lines-same
