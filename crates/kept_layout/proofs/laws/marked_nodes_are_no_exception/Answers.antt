use Rattle.kept_layout.proofs.Steady.{marked_fits}
use Rattle.kept_layout.proofs.laws.marked_nodes_are_no_exception.Goals as goal

pub returns : goal.returns
returns c = marked_fits
