use Rattle.std.proofs.Common.{◌∙◌, ap}
use Rattle.element_tree.specs.Forest.{parent_of}
use Rattle.element_tree.proofs.Walks.{next_marks}
use Rattle.element_tree.proofs.tree.Tree.mark.Goals as goal

pub returns-then-child-sibling-clause-mark : goal.returns-then-child-sibling-clause-mark
returns-then-child-sibling-clause-mark g c p held =
    next_marks c.next_sibling.ensures.forest p (c.args.child.0)
    (ap (parent_of c.args.self.now.nodes) c.if-child-sibling.true ∙ held) c.next_sibling.result c.next_sibling.ensures.value
