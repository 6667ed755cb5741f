use Rattle.std.proofs.Common.{ap, sym, subst, ◌∙◌, length}
use Rattle.page_model.specs.Documents.{removed}
use Rattle.page_documents.specs.Seen.{seen_tree}
use Rattle.page_documents.specs.Held.{HeldDocuments}
use Rattle.page_documents.specs.Frames.{AreFramed, MakeTrees}
use Rattle.page_documents.proofs.Removing.{removed_framed}
use Rattle.page_tree.specs.Items.{carried_in}
use Rattle.page_tree.specs.Views.{PageElements}
use Rattle.page_tree.proofs.Places.{removed_count}
use Rattle.page_tree.proofs.Inserting.{removed_done}
use Rattle.page_tree.proofs.Outcomes.{kept_removed, kept_rest, IsPage-kept}
use Rattle.page_tree.proofs.Moves.{removed_only}
use Rattle.page_tree.specs.Changes.{ChangesAtParent}
use Rattle.page_tree.proofs.page.PageTree.remove.Goals as goal

pub invariant_of-self : goal.invariant_of-self
invariant_of-self c =
    IsPage-kept c.args.self.now c.self.inside.tree c.self.inside.documents c.self.view_is c.remove.new.self c.leave.new.documents
    (kept_removed (c.args.node.0) c.self.inside.tree c.remove.new.self c.remove.ensures.removed)
    c.self.invariant (ap (λ (it : HeldDocuments). it.most) c.leave.ensures)
    (subst AreFramed
    (sym (removed_done c.self.inside.tree c.self.inside.documents c.holds-held.ensures.forest (c.args.node.0) c.leave.new.documents c.leave.ensures
    c.remove.new.self c.remove.ensures.removed))
    (removed_framed (seen_tree carried_in c.self.inside.tree c.self.inside.documents.held) (c.args.node.0) c.self.invariant.framed))

pub returns-clause-done : goal.returns-clause-done
returns-clause-done c =
    removed_done c.self.inside.tree c.self.inside.documents c.holds-held.ensures.forest (c.args.node.0) c.leave.new.documents c.leave.ensures
    c.remove.new.self c.remove.ensures.removed
    ∙ ap (λ (page : PageElements). removed (page.tree) (c.args.node.0)) c.self.view_is

pub returns-clause-rest : goal.returns-clause-rest
returns-clause-rest c =
    kept_rest c.args.self.now c.self.inside.tree c.self.inside.documents c.self.view_is c.remove.new.self c.leave.new.documents
    (kept_removed (c.args.node.0) c.self.inside.tree c.remove.new.self c.remove.ensures.removed)

pub returns-clause-documents : goal.returns-clause-documents
returns-clause-documents c =
    ap (λ (it : HeldDocuments). length it.held) c.leave.ensures
    ∙ removed_count _ (c.args.node.0)
    ∙ ap (λ (page : PageElements). length page.tree.documents) c.self.view_is

pub returns-clause-changes : goal.returns-clause-changes
returns-clause-changes c =
    subst (ChangesAtParent (c.args.node.0) c.args.self.now.tree) (sym (returns-clause-done c))
    (removed_only c.args.self.now.tree (subst (λ (page : PageElements). MakeTrees page.tree) c.self.view_is c.self.invariant.framed.trees) (c.args.node.0))
