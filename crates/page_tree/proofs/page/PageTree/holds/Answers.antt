use Rattle.std.proofs.Common.{◌≤◌, ap, sym, subst, ◌∙◌}
use Rattle.page_model.specs.Documents.{nodes_of, element_depth}
use Rattle.element_tree.specs.Forest.{depth}
use Rattle.page_tree.specs.Trees.{AreTrees}
use Rattle.page_tree.proofs.Trees.{trees_of_page}
use Rattle.page_tree.proofs.Placing.{depth_page}
use Rattle.page_tree.proofs.page.PageTree.holds.Goals as goal

pub returns-clause-trees : goal.returns-clause-trees
returns-clause-trees c = subst (λ page. AreTrees (nodes_of (page.tree))) c.self.view_is
    (trees_of_page c.self.inside.tree c.holds.ensures.forest c.self.inside.documents.held)

pub returns-clause-deep : goal.returns-clause-deep
returns-clause-deep c n =
    subst (λ depth. depth ≤ 256)
    (sym (depth_page c.self.inside.tree c.self.inside.documents.held c.self.invariant.most_depth c.holds.ensures.forest n)
    ∙ ap (λ page. element_depth (page.tree) n) c.self.view_is)
    (subst (λ most. depth c.self.inside.tree.nodes n ≤ most) c.self.invariant.most_depth (c.holds.ensures.forest.within n))
