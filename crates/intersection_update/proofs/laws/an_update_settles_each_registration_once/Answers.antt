use Rattle.intersection_update.proofs.Each.{settled_each, others_left}
use Rattle.intersection_update.proofs.laws.an_update_settles_each_registration_once.Goals as goal

pub returns-clause-each : goal.returns-clause-each
returns-clause-each c = settled_each

pub returns-clause-others : goal.returns-clause-others
returns-clause-others c = others_left
