use Rattle.std.proofs.Common.{◌<◌, length, refl, ap, sym, subst}
use Rattle.page_documents.specs.Held.{HeldDocuments}
use Rattle.page_tree.specs.Views.{PageElements}
use Rattle.page_tree.proofs.Making.{frame_met_nodes, frame_met_documents, frame_roomy, frame_unready, IsPage-made, element_roomy, frame_made, few_documents}
use Rattle.page_tree.proofs.Differences.{added_only}
use Rattle.page_tree.proofs.page.PageTree.make_frame.Goals as goal

pub returns-then-is_full-clause-refused : goal.returns-then-is_full-clause-refused
returns-then-is_full-clause-refused c = frame_met_nodes c.args.self.now c.is_full.result c.is_full.ensures c.if-is_full.true

pub returns-then-is_full_of_documents-clause-refused : goal.returns-then-is_full_of_documents-clause-refused
returns-then-is_full_of_documents-clause-refused c =
    frame_met_documents c.args.self.now c.is_full.result c.is_full.ensures c.if-is_full.false c.is_full_of_documents.result c.is_full_of_documents.ensures
    c.if-is_full_of_documents.true

pub returns-clause-roomy : goal.returns-clause-roomy
returns-clause-roomy c =
    frame_roomy c.args.self.now c.is_full.result c.is_full.ensures c.if-is_full.false c.is_full_of_documents.result c.is_full_of_documents.ensures
    c.if-is_full_of_documents.false

pub returns-in_default-clause-refused : goal.returns-in_default-clause-refused
returns-in_default-clause-refused c = (
  frame_roomy c.args.self.now c.is_full.result c.is_full.ensures c.if-is_full.false c.is_full_of_documents.result c.is_full_of_documents.ensures
      c.if-is_full_of_documents.false,
  frame_unready c.args.self.now c.self.inside.tree c.self.inside.documents c.self.view_is c.self.invariant c.is_full.result c.is_full.ensures c.if-is_full.false
      c.add.result c.add.ensures.refused c.in_default.not-Ok,
)

pub invariant_of-self-2 : goal.invariant_of-self-2
invariant_of-self-2 c =
    IsPage-made c.self.inside.tree c.self.inside.documents c.self.invariant c.add.new.self
    c.args.self.now c.args.self.now c.self.view_is refl (element_roomy c.args.self.now c.is_full.result c.is_full.ensures c.if-is_full.false)
    c.new-element.result c.in-Ok.ensures.added
    c.make-framed.new.self (ap (λ (it : HeldDocuments). it.most) c.make-framed.ensures.made)
    (frame_made c.self.inside.tree c.add.new.self c.self.inside.documents c.self.invariant.framed c.args.name c.args.document.0 c.count.result
    c.new-element.result c.count.ensures.value c.new-element.ensures c.in-Ok.ensures.added
    (c.in-Ok.node.0) c.in-Ok.ensures.node c.make-framed.new.self c.make-framed.ensures.made
    (subst (λ (page : PageElements). length page.tree.documents < 65536) (sym c.self.view_is)
    (few_documents c.args.self.now c.is_full_of_documents.result c.is_full_of_documents.ensures c.if-is_full_of_documents.false)))

pub returns-clause-changes : goal.returns-clause-changes
returns-clause-changes c =
    added_only c.self.inside.tree c.add.new.self c.self.inside.documents.held c.make-framed.new.self.held c.self.invariant.framed
    c.new-element.result c.in-Ok.ensures.added c.args.self.now.tree (ap (λ (page : PageElements). page.tree) c.self.view_is)
