use Rattle.std.proofs.Common.{◌∙◌, sym}
use Rattle.element_tree.proofs.Walks.{climb_ends, climb_step, climb_falls}
use Rattle.element_tree.proofs.tree.Tree.is_ancestor.Goals as goal

pub returns-then-inclusive-ancestor : goal.returns-then-inclusive-ancestor
returns-then-inclusive-ancestor g c = sym (climb_ends c.args.self.now.nodes (c.args.ancestor.0) c.loop-at.at c.in-Some.inclusive c.in-Some.is c.if-inclusive-ancestor.true) ∙ c.loop-at.invariant

pub loop-at-smaller : goal.loop-at-smaller
loop-at-smaller g c = climb_falls c.args.self.now.nodes (c.args.ancestor.0) c.loop-at.at c.in-Some.inclusive c.in-Some.is c.parent-at.ensures.forest c.parent-at.result c.parent-at.ensures.value

pub loop-at-preserved : goal.loop-at-preserved
loop-at-preserved g c =
    climb_step c.args.self.now.nodes (c.args.ancestor.0) c.loop-at.at c.in-Some.inclusive c.in-Some.is c.parent-at.ensures.forest c.parent-at.result c.parent-at.ensures.value c.if-inclusive-ancestor.false
    ∙ c.loop-at.invariant
