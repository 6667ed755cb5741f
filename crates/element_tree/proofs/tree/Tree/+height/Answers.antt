use Rattle.std.proofs.Common.{◌≡◌, ◌+◌, ◌≤◌, arith, Option, option_map, ap, length, suc}
use Rattle.std.proofs.lemmas.Bool.Decides.{nat_tests}
use Rattle.element_tree.specs.declared.node.NodeId.{NodeId}
use Rattle.element_tree.specs.Forest.{height, greatest, rest_from, children_of}
use Rattle.element_tree.specs.Links.{number}
use Rattle.element_tree.proofs.Levels.{kid_depth, low_enough, height_law, height_bound}
use Rattle.element_tree.proofs.Walks.{walk_child, walk_step, walk_on}
use Rattle.element_tree.proofs.tree.Tree.+height.Goals as goal

pub height-requires : goal.height-requires
height-requires g t c κs within =
    let child = walk_child c.first_child-next.ensures.forest (c.args.node.0) c.loop-next.next c.in-Some.child c.in-Some.is c.loop-next.invariant.among in
    let deeper = kid_depth c.first_child-next.ensures.forest (c.args.node.0) (c.in-Some.child.0) child in
    let low = low_enough c.first_child-next.ensures.forest (c.in-Some.child.0) in
    (omega arith, within)

pub loop-next-smaller : goal.loop-next-smaller
loop-next-smaller g t c =
    let step = walk_step c.first_child-next.ensures.forest (c.args.node.0) c.loop-next.next c.in-Some.child c.in-Some.is c.loop-next.invariant.among
    c.next_sibling-next.result c.next_sibling-next.ensures.value in
    let shorter : length (rest_from (option_map number c.loop-next.next) (children_of c.args.self.now.nodes (c.args.node.0)))
    ≡ suc (length (rest_from (option_map number c.next_sibling-next.result) (children_of c.args.self.now.nodes (c.args.node.0)))) = ap length step in
    omega arith

pub loop-next-preserved : goal.loop-next-preserved
loop-next-preserved g t c =
    let step = walk_step c.first_child-next.ensures.forest (c.args.node.0) c.loop-next.next c.in-Some.child c.in-Some.is c.loop-next.invariant.among
    c.next_sibling-next.result c.next_sibling-next.ensures.value in
    let more = ap (greatest (height c.args.self.now.nodes)) step in
    record {
      best = grind (arith, nat_tests, more, c.loop-next.invariant.best, c.height.ensures.value, c.max-below.ensures);
      among = walk_on c.first_child-next.ensures.forest (c.args.node.0) c.loop-next.next c.in-Some.child c.in-Some.is c.loop-next.invariant.among
          c.next_sibling-next.result c.next_sibling-next.ensures.value;
    }

pub returns-clause-value : goal.returns-clause-value
returns-clause-value g t c =
    let done : greatest (height c.args.self.now.nodes) (rest_from (option_map number c.loop-next.next) (children_of c.args.self.now.nodes (c.args.node.0))) ≡ 0
    = ap (λ (o : Option NodeId). greatest (height c.args.self.now.nodes) (rest_from (option_map number o) (children_of c.args.self.now.nodes (c.args.node.0)))) c.in_default.is in
    omega (arith, done, c.loop-next.invariant.best, height_law c.first_child-next.ensures.forest (c.args.node.0))

pub overflow_add-result : goal.overflow_add-result
overflow_add-result g t c =
    let done : greatest (height c.args.self.now.nodes) (rest_from (option_map number c.loop-next.next) (children_of c.args.self.now.nodes (c.args.node.0))) ≡ 0
    = ap (λ (o : Option NodeId). greatest (height c.args.self.now.nodes) (rest_from (option_map number o) (children_of c.args.self.now.nodes (c.args.node.0)))) c.in_default.is in
    let low : c.loop-next.below + 1 ≤ 65537
    = omega (
      arith,
      done,
      c.loop-next.invariant.best,
      height_law c.first_child-next.ensures.forest (c.args.node.0),
      height_bound c.first_child-next.ensures.forest (c.args.node.0),
      c.first_child-next.ensures.forest.levels,
    ) in
    omega arith
