use Rattle.thresholds.proofs.Order.{rising}
use Rattle.thresholds.proofs.laws.thresholds_are_the_values_in_order.Goals as goal

pub returns-clause-ascending : goal.returns-clause-ascending
returns-clause-ascending c = rising
