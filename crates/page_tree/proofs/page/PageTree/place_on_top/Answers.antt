use Rattle.std.proofs.Common.{◌<◌, ap, sym, subst, ◌∙◌, length, option_map}
use Rattle.element_tree.specs.Links.{number}
use Rattle.page_model.specs.World.{InDocument}
use Rattle.page_model.specs.Commands.{placing}
use Rattle.page_documents.specs.Held.{HeldDocuments}
use Rattle.page_documents.specs.Seen.{seen_tree}
use Rattle.page_documents.proofs.Placing.{placing_framed}
use Rattle.page_documents.specs.Frames.{MakeTrees}
use Rattle.page_tree.specs.Items.{carried_in}
use Rattle.page_tree.specs.Views.{PageElements}
use Rattle.page_tree.proofs.Places.{removed_count, shown_count}
use Rattle.page_tree.proofs.Placing.{top_missing, top_full}
use Rattle.page_tree.proofs.Inserting.{top_put}
use Rattle.page_tree.proofs.Outcomes.{kept_then, kept_removed, kept_adopted, kept_rest, kept_count, IsPage-kept, document_within}
use Rattle.page_tree.proofs.Moves.{placed_only}
use Rattle.page_tree.proofs.page.PageTree.place_on_top.Goals as goal
use Rattle.element_tree.proofs.Nodes.{length-changed}
use Rattle.style_values.proofs.Named.{is_mapped}

pub returns-then-is_no_root-clause-refused : goal.returns-then-is_no_root-clause-refused
returns-then-is_no_root-clause-refused c =
    ap (λ (page : PageElements). placing (InDocument c.args.document.0) (c.args.node.0) (option_map number c.args.sibling) (page.tree)) (sym c.self.view_is)
    ∙ top_missing c.self.inside.tree c.self.inside.documents.held c.self.invariant.most_depth c.holds-held.ensures.forest
    c.args.document.0 (c.args.node.0) (option_map number c.args.sibling) c.is_no_root.result c.is_no_root.ensures c.if-is_no_root.true

pub returns-then-is_some-clause-refused : goal.returns-then-is_some-clause-refused
returns-then-is_some-clause-refused c =
    ap (λ (page : PageElements). placing (InDocument c.args.document.0) (c.args.node.0) (option_map number c.args.sibling) (page.tree)) (sym c.self.view_is)
    ∙ top_full c.self.inside.tree c.self.inside.documents.held c.self.invariant.most_depth c.holds-held.ensures.forest
    c.args.document.0 (c.args.node.0) (option_map number c.args.sibling) c.is_no_root.result c.is_no_root.ensures c.if-is_no_root.false
    (option_map number c.root_of.result) c.root_of.ensures (is_mapped number c.root_of.result ∙ sym c.is_some.ensures ∙ c.if-is_some.true)

pub set_root-requires : goal.set_root-requires
set_root-requires c =
    subst (λ count. c.args.document.0 < count)
    (sym (ap (λ (it : HeldDocuments). length it.held) c.leave.ensures ∙ removed_count _ (c.args.node.0)))
    (document_within c.args.self.now c.self.inside.tree c.self.inside.documents c.self.view_is c.args.document.0 c.requires.document)

pub invariant_of-self : goal.invariant_of-self
invariant_of-self c =
    IsPage-kept c.args.self.now c.self.inside.tree c.self.inside.documents c.self.view_is c.entered.new.tree c.entered.new.self
    (kept_then c.self.inside.tree c.remove.new.self c.entered.new.tree
    (kept_removed (c.args.node.0) c.self.inside.tree c.remove.new.self c.remove.ensures.removed)
    (kept_adopted c.args.document.0 (c.args.node.0) c.remove.new.self c.entered.new.tree c.entered.ensures.adopted))
    c.self.invariant
    (ap (λ (it : HeldDocuments). it.most) c.entered.ensures.shown ∙ ap (λ (it : HeldDocuments). it.most) c.set_root.ensures
    ∙ ap (λ (it : HeldDocuments). it.most) c.leave.ensures)
    (placing_framed (seen_tree carried_in c.self.inside.tree c.self.inside.documents.held) (seen_tree carried_in c.entered.new.tree c.entered.new.self.held)
    (InDocument c.args.document.0) (c.args.node.0) (option_map number c.args.sibling) c.self.invariant.framed
    (document_within c.args.self.now c.self.inside.tree c.self.inside.documents c.self.view_is c.args.document.0 c.requires.document)
    (subst (λ (page : PageElements). c.args.node.0 < length page.tree.elements) (sym c.self.view_is) c.requires.node)
    (top_put c.self.inside.tree c.self.inside.documents c.holds-held.ensures.forest (c.args.node.0) c.leave.new.documents c.leave.ensures
    c.remove.new.self c.remove.ensures.removed c.self.invariant.most_depth c.args.document.0 c.set_root.new.self c.set_root.ensures
    (option_map number c.args.sibling) c.is_no_root.result c.is_no_root.ensures c.if-is_no_root.false
    (option_map number c.root_of.result) c.root_of.ensures (is_mapped number c.root_of.result ∙ sym c.is_some.ensures ∙ c.if-is_some.false)
    _ c.entered.ensures.inserted))

pub returns-clause-done : goal.returns-clause-done
returns-clause-done c =
    ap (λ (page : PageElements). placing (InDocument c.args.document.0) (c.args.node.0) (option_map number c.args.sibling) (page.tree)) (sym c.self.view_is)
    ∙ top_put c.self.inside.tree c.self.inside.documents c.holds-held.ensures.forest (c.args.node.0) c.leave.new.documents c.leave.ensures
    c.remove.new.self c.remove.ensures.removed c.self.invariant.most_depth c.args.document.0 c.set_root.new.self c.set_root.ensures
    (option_map number c.args.sibling) c.is_no_root.result c.is_no_root.ensures c.if-is_no_root.false
    (option_map number c.root_of.result) c.root_of.ensures (is_mapped number c.root_of.result ∙ sym c.is_some.ensures ∙ c.if-is_some.false)
    _ c.entered.ensures.inserted

pub returns-clause-rest : goal.returns-clause-rest
returns-clause-rest c =
    kept_rest c.args.self.now c.self.inside.tree c.self.inside.documents c.self.view_is c.entered.new.tree c.entered.new.self
    (kept_then c.self.inside.tree c.remove.new.self c.entered.new.tree
    (kept_removed (c.args.node.0) c.self.inside.tree c.remove.new.self c.remove.ensures.removed)
    (kept_adopted c.args.document.0 (c.args.node.0) c.remove.new.self c.entered.new.tree c.entered.ensures.adopted))

pub returns-clause-count : goal.returns-clause-count
returns-clause-count c =
    kept_count c.args.self.now c.self.inside.tree c.self.inside.documents c.self.view_is c.entered.new.tree c.entered.new.self
    (kept_then c.self.inside.tree c.remove.new.self c.entered.new.tree
    (kept_removed (c.args.node.0) c.self.inside.tree c.remove.new.self c.remove.ensures.removed)
    (kept_adopted c.args.document.0 (c.args.node.0) c.remove.new.self c.entered.new.tree c.entered.ensures.adopted))

pub returns-clause-documents : goal.returns-clause-documents
returns-clause-documents c =
    ap (λ (it : HeldDocuments). length it.held) c.entered.ensures.shown
    ∙ shown_count _ (c.args.node.0)
    ∙ ap (λ (it : HeldDocuments). length it.held) c.set_root.ensures
    ∙ length-changed _ c.args.document.0 _
    ∙ ap (λ (it : HeldDocuments). length it.held) c.leave.ensures
    ∙ removed_count _ (c.args.node.0)
    ∙ ap (λ (page : PageElements). length page.tree.documents) c.self.view_is

pub returns-clause-changes : goal.returns-clause-changes
returns-clause-changes c =
    placed_only (InDocument c.args.document.0) (c.args.node.0) (option_map number c.args.sibling) c.args.self.now.tree _
    (subst (λ (page : PageElements). MakeTrees page.tree) c.self.view_is c.self.invariant.framed.trees) (returns-clause-done c)
