use Rattle.frame_update.proofs.Handing.{delivery_handed, queue_handed}
use Rattle.frame_update.proofs.laws.what_is_delivered_can_be_handed.Goals as goal

pub returns-clause-deliveries : goal.returns-clause-deliveries
returns-clause-deliveries c = delivery_handed

pub returns-clause-queues : goal.returns-clause-queues
returns-clause-queues c = queue_handed
