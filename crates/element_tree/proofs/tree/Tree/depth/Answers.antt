use Rattle.std.proofs.Common.{sym, arith}
use Rattle.element_tree.proofs.Depths.{depth_of_root}
use Rattle.element_tree.proofs.tree.Tree.depth.Goals as goal

pub returns-clause-value : goal.returns-clause-value
returns-clause-value g c =
    omega (arith, depth_of_root c.args.self.now.nodes (c.loop-parent.at.0) (sym c.in_default.ensures.value))
