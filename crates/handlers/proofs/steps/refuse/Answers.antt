use Rattle.handlers.proofs.Answered.{limit_refused}
use Rattle.handlers.proofs.steps.refuse.Goals as goal

pub returns-in-Limit : goal.returns-in-Limit
returns-in-Limit g c = limit_refused _ _ _ _ _ _ _ c.in-Limit.is c.number-number.ensures
