use Rattle.std.proofs.Common.{arith}
use Rattle.element_tree.proofs.Levels.{height_bound}
use Rattle.page_tree.proofs.page.check.Goals as goal

pub overflow_add-depth : goal.overflow_add-depth
overflow_add-depth c =
    let bound = height_bound c.height.ensures.forest (c.args.node.0) in
    omega (arith, c.depth.ensures.value, c.depth.ensures.forest.within (c.args.parent.0), c.height.ensures.value, c.requires)
