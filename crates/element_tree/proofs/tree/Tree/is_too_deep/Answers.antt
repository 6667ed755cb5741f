use Rattle.std.proofs.Common.{arith, ◌≤◌, ◌+◌}
use Rattle.element_tree.proofs.Levels.{low_enough, height_bound}
use Rattle.element_tree.proofs.tree.Tree.is_too_deep.Goals as goal

pub overflow_add-result : goal.overflow_add-result
overflow_add-result g c =
    let deep = low_enough c.depth.ensures.forest (c.args.parent.0) in
    let high = height_bound c.depth.ensures.forest (c.args.child.0) in
    let low : c.depth.result + c.height.result ≤ 131073
    = omega (arith, c.depth.ensures.value, c.height.ensures.value, c.depth.ensures.forest.levels) in
    omega arith
