use Rattle.kept_layout.proofs.Steady.{more_fits}
use Rattle.kept_layout.proofs.laws.exceptions_may_be_more.Goals as goal

pub returns : goal.returns
returns c = more_fits
