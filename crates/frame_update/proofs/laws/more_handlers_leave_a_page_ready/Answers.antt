use Rattle.frame_update.proofs.Ready.{ready_for_more}
use Rattle.frame_update.proofs.laws.more_handlers_leave_a_page_ready.Goals as goal

pub returns : goal.returns
returns c = ready_for_more
