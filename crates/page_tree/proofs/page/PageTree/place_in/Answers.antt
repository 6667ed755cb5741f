use Rattle.std.proofs.Common.{◌<◌, ap, sym, subst, ◌∙◌, length, option_map}
use Rattle.element_tree.specs.Links.{number}
use Rattle.page_model.specs.World.{InElement}
use Rattle.page_model.specs.Commands.{placing}
use Rattle.page_documents.specs.Held.{HeldDocuments}
use Rattle.page_documents.specs.Seen.{seen_tree}
use Rattle.page_documents.proofs.Seen.{owner_seen}
use Rattle.page_documents.proofs.Placing.{placing_framed}
use Rattle.page_documents.specs.Frames.{MakeTrees}
use Rattle.page_tree.specs.Items.{carried_in}
use Rattle.page_tree.specs.Faults.{refusal}
use Rattle.page_tree.specs.Answers.{mark_for}
use Rattle.page_tree.specs.Views.{PageElements}
use Rattle.page_tree.proofs.Places.{removed_count, shown_count}
use Rattle.page_tree.proofs.Placing.{in_refused}
use Rattle.page_tree.proofs.Inserting.{put_done}
use Rattle.page_tree.proofs.Outcomes.{kept_then, kept_put, kept_adopted, kept_rest, kept_count, IsPage-kept}
use Rattle.page_tree.proofs.Moves.{placed_only}
use Rattle.page_tree.proofs.page.PageTree.place_in.Goals as goal

pub returns-in-Err-clause-refused : goal.returns-in-Err-clause-refused
returns-in-Err-clause-refused c =
    ap (λ (page : PageElements). placing (InElement (c.args.parent.0)) (c.args.node.0) (option_map number c.args.sibling) (page.tree)) (sym c.self.view_is)
    ∙ in_refused c.self.inside.tree c.self.inside.documents.held c.self.invariant.most_depth c.holds-held.ensures.forest
    (c.args.parent.0) (c.args.node.0) (option_map number c.args.sibling) c.in-Err.fault c.in-Err.ensures
    ∙ ap refusal (sym c.refused.ensures)

pub invariant_of-self : goal.invariant_of-self
invariant_of-self c =
    IsPage-kept c.args.self.now c.self.inside.tree c.self.inside.documents c.self.view_is c.entered.new.tree c.entered.new.self
    (kept_then c.self.inside.tree c.put.new.tree c.entered.new.tree
    (kept_put (c.args.parent.0) (c.args.node.0) (mark_for (c.args.node.0) (option_map number c.args.sibling) c.self.inside.tree.nodes) c.self.inside.tree
    c.put.new.tree c.put.ensures.done)
    (kept_adopted c.document-document.result.0 (c.args.node.0) c.put.new.tree c.entered.new.tree c.entered.ensures.adopted))
    c.self.invariant
    (ap (λ (it : HeldDocuments). it.most) c.entered.ensures.shown ∙ ap (λ (it : HeldDocuments). it.most) c.leave.ensures)
    (placing_framed (seen_tree carried_in c.self.inside.tree c.self.inside.documents.held) (seen_tree carried_in c.entered.new.tree c.entered.new.self.held)
    (InElement (c.args.parent.0)) (c.args.node.0) (option_map number c.args.sibling) c.self.invariant.framed
    (subst (λ (page : PageElements). c.args.parent.0 < length page.tree.elements) (sym c.self.view_is) c.requires.parent)
    (subst (λ (page : PageElements). c.args.node.0 < length page.tree.elements) (sym c.self.view_is) c.requires.node)
    (put_done c.self.inside.tree c.self.inside.documents c.holds-held.ensures.forest (c.args.node.0) c.leave.new.documents c.leave.ensures
    c.self.invariant.most_depth (c.args.parent.0) (option_map number c.args.sibling) c.in_default.ensures c.put.new.tree c.put.ensures.done
    c.document-document.result.0
    (owner_seen carried_in c.self.inside.tree c.self.inside.documents.held (c.args.parent.0) c.payload.result.now c.payload.ensures.value
    ∙ sym c.document-document.ensures)
    _ c.entered.ensures.inserted))

pub returns-clause-done : goal.returns-clause-done
returns-clause-done c =
    ap (λ (page : PageElements). placing (InElement (c.args.parent.0)) (c.args.node.0) (option_map number c.args.sibling) (page.tree)) (sym c.self.view_is)
    ∙ put_done c.self.inside.tree c.self.inside.documents c.holds-held.ensures.forest (c.args.node.0) c.leave.new.documents c.leave.ensures
    c.self.invariant.most_depth (c.args.parent.0) (option_map number c.args.sibling) c.in_default.ensures c.put.new.tree c.put.ensures.done
    c.document-document.result.0
    (owner_seen carried_in c.self.inside.tree c.self.inside.documents.held (c.args.parent.0) c.payload.result.now c.payload.ensures.value
    ∙ sym c.document-document.ensures)
    _ c.entered.ensures.inserted

pub returns-clause-rest : goal.returns-clause-rest
returns-clause-rest c =
    kept_rest c.args.self.now c.self.inside.tree c.self.inside.documents c.self.view_is c.entered.new.tree c.entered.new.self
    (kept_then c.self.inside.tree c.put.new.tree c.entered.new.tree
    (kept_put (c.args.parent.0) (c.args.node.0) (mark_for (c.args.node.0) (option_map number c.args.sibling) c.self.inside.tree.nodes) c.self.inside.tree
    c.put.new.tree c.put.ensures.done)
    (kept_adopted c.document-document.result.0 (c.args.node.0) c.put.new.tree c.entered.new.tree c.entered.ensures.adopted))

pub returns-clause-count : goal.returns-clause-count
returns-clause-count c =
    kept_count c.args.self.now c.self.inside.tree c.self.inside.documents c.self.view_is c.entered.new.tree c.entered.new.self
    (kept_then c.self.inside.tree c.put.new.tree c.entered.new.tree
    (kept_put (c.args.parent.0) (c.args.node.0) (mark_for (c.args.node.0) (option_map number c.args.sibling) c.self.inside.tree.nodes) c.self.inside.tree
    c.put.new.tree c.put.ensures.done)
    (kept_adopted c.document-document.result.0 (c.args.node.0) c.put.new.tree c.entered.new.tree c.entered.ensures.adopted))

pub returns-clause-documents : goal.returns-clause-documents
returns-clause-documents c =
    ap (λ (it : HeldDocuments). length it.held) c.entered.ensures.shown
    ∙ shown_count _ (c.args.node.0)
    ∙ ap (λ (it : HeldDocuments). length it.held) c.leave.ensures
    ∙ removed_count _ (c.args.node.0)
    ∙ ap (λ (page : PageElements). length page.tree.documents) c.self.view_is

pub returns-clause-changes : goal.returns-clause-changes
returns-clause-changes c =
    placed_only (InElement (c.args.parent.0)) (c.args.node.0) (option_map number c.args.sibling) c.args.self.now.tree _
    (subst (λ (page : PageElements). MakeTrees page.tree) c.self.view_is c.self.invariant.framed.trees) (returns-clause-done c)
