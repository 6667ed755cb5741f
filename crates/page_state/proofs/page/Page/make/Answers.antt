-- An element is made with its name.
use Rattle.std.proofs.Common.{◌+◌, ◌++◌, ◌∷◌, [], None, length, ap, refl, ◌∙◌}
use Rattle.page_tree.specs.Views.{PageElements}
use Rattle.page_model.specs.Edits.{with_element}
use Rattle.block_layout.specs.Seen.{seen_kind}
use Rattle.page_state.proofs.Inside.{prepared, enlarged}
use Rattle.page_state.proofs.Made.{due_made, due_still}
use Rattle.page_state.proofs.page.Page.make.Goals as goal

pub invariant_of-self-in_err-add : goal.invariant_of-self-in_err-add
invariant_of-self-in_err-add c = prepared c.self.inside c.reserve.new.self c.clear.new.self c.self.inside.names c.add.new.self c.clear.ensures c.self.invariant c.reserve.ensures.same refl c.add.ensures.roomier

pub invariant_of-self-in_err-insert : goal.invariant_of-self-in_err-insert
invariant_of-self-in_err-insert c =
    prepared c.self.inside c.reserve.new.self c.clear.new.self c.insert.new.self c.add.new.self c.clear.ensures c.self.invariant c.reserve.ensures.same c.in_err-insert.ensures.same c.add.ensures.roomier

pub invariant_of-self-2 : goal.invariant_of-self-2
invariant_of-self-2 c =
    enlarged c.self.inside c.self.invariant c.make.new.self c.clear.new.self c.clear.ensures c.insert.new.self c.add.new.self c.add.ensures.roomier c.args.name
    (ap (λ (it : PageElements). it.version) c.in_ok-_node.ensures.made ∙ ap (λ (it : PageElements). it.version) c.in_ok-node.ensures.same)
    (ap (λ (it : PageElements). it.names) c.in_ok-_node.ensures.made ∙ ap (λ (it : PageElements). it.names ++ c.args.name ∷ []) c.in_ok-node.ensures.same)
    (c.in_ok-_node.ensures.count ∙ ap (λ (it : PageElements). length it.tree.elements + 1) c.in_ok-node.ensures.same)
    c.in_ok-node.node.0 c.in_ok-node.ensures.node c.in_ok-insert.ensures.given
    (c.in_ok-_node.ensures.documents ∙ ap (λ (it : PageElements). length it.tree.documents) c.in_ok-node.ensures.same)
    c.in_ok-add.ensures.room

pub returns-in_err-node-clause-boxes : goal.returns-in_err-node-clause-boxes
returns-in_err-node-clause-boxes c =
    due_still c.self.inside c.args.self.now c.self.view_is c.making_leaves_boxes.ensures.leaves c.reserve.new.self c.reserve.ensures.marks
    (ap (λ (it : PageElements). it.tree) c.reserve.ensures.same)

pub returns-in_err-add-clause-boxes : goal.returns-in_err-add-clause-boxes
returns-in_err-add-clause-boxes c =
    due_still c.self.inside c.args.self.now c.self.view_is c.making_leaves_boxes.ensures.leaves c.reserve.new.self c.reserve.ensures.marks
    (ap (λ (it : PageElements). it.tree) c.reserve.ensures.same)

pub returns-in_err-insert-clause-boxes : goal.returns-in_err-insert-clause-boxes
returns-in_err-insert-clause-boxes c =
    due_still c.self.inside c.args.self.now c.self.view_is c.making_leaves_boxes.ensures.leaves c.reserve.new.self c.reserve.ensures.marks
    (ap (λ (it : PageElements). it.tree) c.reserve.ensures.same)

pub returns-clause-boxes : goal.returns-clause-boxes
returns-clause-boxes c =
    let kind = seen_kind c.args.kind in
    let document = c.in_ok-document.document.0 in
    due_made c.self.inside c.args.self.now c.self.view_is c.making_leaves_boxes.ensures.leaves c.make.new.self (λ n. c.in_ok-_node.ensures.marks n ∙ c.in_ok-node.ensures.marks n)
    (with_element kind document None) (c.making_leaves_boxes.ensures.elements c.args.kind document)
    (ap (λ (it : PageElements). it.tree) c.in_ok-_node.ensures.made ∙ ap (λ (it : PageElements). with_element kind document None (it.tree)) c.in_ok-node.ensures.same)
