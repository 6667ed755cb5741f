use Rattle.page_state.proofs.Quiet.{none_settled}
use Rattle.page_state.proofs.settled.Settled.new.Goals as goal

pub returns : goal.returns
returns c = none_settled
