use Rattle.kept_layout.proofs.Steady.{changed_elsewhere}
use Rattle.kept_layout.proofs.laws.changes_leave_the_rest_right.Goals as goal

pub returns : goal.returns
returns c = changed_elsewhere
