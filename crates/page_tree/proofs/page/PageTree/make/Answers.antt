use Rattle.std.proofs.Common.{refl, ap, ◌∙◌}
use Rattle.block_layout.specs.Seen.{seen_kind}
use Rattle.page_tree.specs.Views.{PageElements}
use Rattle.page_tree.proofs.Making.{IsPage-made, element_made}
use Rattle.page_tree.proofs.Differences.{added_only}
use Rattle.page_tree.proofs.page.PageTree.make.Goals as goal

pub invariant_of-self-2 : goal.invariant_of-self-2
invariant_of-self-2 c =
    IsPage-made c.self.inside.tree c.self.inside.documents c.self.invariant c.add.new.self
    c.args.self.now c.reserve.new.self c.self.view_is c.in_default.ensures.same c.in_default.ensures.roomy c.new.result c.in-Ok.ensures.added
    c.self.inside.documents refl
    (element_made c.self.inside.tree c.add.new.self c.self.inside.documents c.self.invariant.framed c.args.name (seen_kind c.args.kind) c.args.document.0
    c.new.result c.new.ensures c.in-Ok.ensures.added)

pub returns-clause-changes : goal.returns-clause-changes
returns-clause-changes c =
    added_only c.self.inside.tree c.add.new.self c.self.inside.documents.held c.self.inside.documents.held c.self.invariant.framed
    c.new.result c.in-Ok.ensures.added c.args.self.now.tree (ap (λ (page : PageElements). page.tree) (c.self.view_is ∙ c.in_default.ensures.same))
