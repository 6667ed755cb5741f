use Rattle.live_page.proofs.Naming.{kept_none}
use Rattle.live_page.proofs.further.keeps_names.Goals as goal

pub loop-number-init : goal.loop-number-init
loop-number-init c = kept_none _ _
