use Rattle.std.proofs.Common.{sym, subst}
use Rattle.style_values.specs.Seen.{seen_declaration}
use Rattle.page_tree.specs.Items.{declared_in}
use Rattle.page_tree.specs.Views.{PageElements}
use Rattle.page_tree.proofs.Items.{IsPage-written, written_done, written_rest, written_count}
use Rattle.page_documents.specs.Frames.{AreFramed}
use Rattle.page_tree.specs.Changes.{ChangesAtElement}
use Rattle.page_tree.proofs.Differences.{written_only}
use Rattle.page_tree.proofs.page.PageTree.set.Goals as goal

pub invariant_of-self : goal.invariant_of-self
invariant_of-self c =
    IsPage-written c.args.self.now c.self.inside.tree c.self.inside.documents c.self.view_is c.self.invariant
    (c.args.node.0) c.payload_mut.result.now c.apply.new.self c.payload_mut.ensures.value (declared_in (seen_declaration c.args.declaration)) c.apply.ensures

pub returns-clause-done : goal.returns-clause-done
returns-clause-done c =
    written_done c.args.self.now c.self.inside.tree c.self.inside.documents c.self.view_is c.self.invariant
    (c.args.node.0) c.payload_mut.result.now c.apply.new.self c.payload_mut.ensures.value (declared_in (seen_declaration c.args.declaration)) c.apply.ensures

pub returns-clause-rest : goal.returns-clause-rest
returns-clause-rest c =
    written_rest c.args.self.now c.self.inside.tree c.self.inside.documents c.self.view_is c.self.invariant
    (c.args.node.0) c.payload_mut.result.now c.apply.new.self c.payload_mut.ensures.value (declared_in (seen_declaration c.args.declaration)) c.apply.ensures

pub returns-clause-count : goal.returns-clause-count
returns-clause-count c =
    written_count c.args.self.now c.self.inside.tree c.self.inside.documents c.self.view_is c.self.invariant
    (c.args.node.0) c.payload_mut.result.now c.apply.new.self c.payload_mut.ensures.value (declared_in (seen_declaration c.args.declaration)) c.apply.ensures

pub returns-clause-changes : goal.returns-clause-changes
returns-clause-changes c =
    subst (ChangesAtElement (c.args.node.0) c.args.self.now.tree) (sym (returns-clause-done c))
    (written_only c.args.self.now.tree (subst (λ (page : PageElements). AreFramed page.tree) c.self.view_is c.self.invariant.framed)
    (declared_in (seen_declaration c.args.declaration)) (c.args.node.0))
