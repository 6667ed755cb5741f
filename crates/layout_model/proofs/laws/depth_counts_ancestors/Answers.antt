use Rattle.std.proofs.Common.{ap, length}
use Rattle.layout_model.specs.Nodes.{depth_of}
use Rattle.layout_model.proofs.Paths.{depth_child, path_top}
use Rattle.layout_model.proofs.laws.depth_counts_ancestors.Goals as goal

pub returns-clause-child : goal.returns-clause-child
returns-clause-child c at n p is short = depth_child at n p is short

pub returns-clause-top : goal.returns-clause-top
unfolding depth_of
returns-clause-top c at n is = ap length (path_top at n is)
