use Rattle.std.proofs.Common.{◌∙◌, ap, sym, subst, List}
use Rattle.page_model.specs.World.{Document}
use Rattle.page_model.specs.Documents.{adopted, stands_in_active}
use Rattle.page_documents.specs.Seen.{seen_tree}
use Rattle.page_documents.specs.Held.{HeldDocuments}
use Rattle.page_documents.specs.Frames.{MakeTrees}
use Rattle.page_documents.proofs.Seen.{node_there}
use Rattle.page_documents.proofs.Between.{trees_seen, entered_together}
use Rattle.page_documents.proofs.Inside.{shown_there, not_shown, shown_by_documents}
use Rattle.page_documents.proofs.documents.Documents.entered.Goals as goal

pub returns-then-stands_in_active-clause-shown : goal.returns-then-stands_in_active-clause-shown
returns-then-stands_in_active-clause-shown g c =
    let held = c.as_slice.ensures.value ∙ ap (λ (it : HeldDocuments). it.held) c.self.view_is in
    c.change_inside.ensures
    ∙ ap (λ (held : List Document). let it : HeldDocuments = record c.args.self.now { held = held } in it)
    (shown_there (seen_tree (g.P.Owned.carried) c.adopt.new.tree c.args.self.now.held) (c.args.node.0)
    (ap (λ (documents : List Document). stands_in_active (seen_tree (g.P.Owned.carried) c.adopt.new.tree documents) (c.args.node.0)) (sym held)
    ∙ sym c.stands_in_active.ensures.value ∙ c.if-stands_in_active.true))

pub returns-else-stands_in_active-clause-shown : goal.returns-else-stands_in_active-clause-shown
returns-else-stands_in_active-clause-shown g c =
    let held = c.as_slice.ensures.value ∙ ap (λ (it : HeldDocuments). it.held) c.self.view_is in
    ap (λ (held : List Document). let it : HeldDocuments = record c.args.self.now { held = held } in it)
    (not_shown (seen_tree (g.P.Owned.carried) c.adopt.new.tree c.args.self.now.held) (c.args.node.0)
    (ap (λ (documents : List Document). stands_in_active (seen_tree (g.P.Owned.carried) c.adopt.new.tree documents) (c.args.node.0)) (sym held)
    ∙ sym c.stands_in_active.ensures.value ∙ c.if-stands_in_active.false))

pub returns-then-stands_in_active-clause-inserted : goal.returns-then-stands_in_active-clause-inserted
returns-then-stands_in_active-clause-inserted g c =
    shown_by_documents (seen_tree (g.P.Owned.carried) c.adopt.new.tree c.args.self.now.held)
    (adopted (seen_tree (g.P.Owned.carried) c.args.tree.now c.args.self.now.held) c.args.document.0 (c.args.node.0)) _ (c.args.node.0)
    (ap (λ (it : HeldDocuments). it.held) (returns-then-stands_in_active-clause-shown g c)) (c.adopt.ensures.seen c.args.self.now.held)

pub returns-else-stands_in_active-clause-inserted : goal.returns-else-stands_in_active-clause-inserted
returns-else-stands_in_active-clause-inserted g c =
    shown_by_documents (seen_tree (g.P.Owned.carried) c.adopt.new.tree c.args.self.now.held)
    (adopted (seen_tree (g.P.Owned.carried) c.args.tree.now c.args.self.now.held) c.args.document.0 (c.args.node.0)) _ (c.args.node.0)
    (ap (λ (it : HeldDocuments). it.held) (returns-else-stands_in_active-clause-shown g c)) (c.adopt.ensures.seen c.args.self.now.held)

pub returns-then-stands_in_active-clause-framed : goal.returns-then-stands_in_active-clause-framed
returns-then-stands_in_active-clause-framed g c before container sibling framed put own =
    entered_together before (seen_tree (g.P.Owned.carried) c.args.tree.now c.args.self.now.held) _ container (c.args.node.0) c.args.document.0 sibling framed
    put own (node_there (g.P.Owned.carried) c.args.tree.now.nodes (c.args.node.0) c.requires)
    (subst MakeTrees (c.adopt.ensures.seen c.args.self.now.held) (trees_seen (g.P.Owned.carried) c.adopt.new.tree c.args.self.now.held
    c.stands_in_active.ensures.forest))
    (returns-then-stands_in_active-clause-inserted g c)

pub returns-else-stands_in_active-clause-framed : goal.returns-else-stands_in_active-clause-framed
returns-else-stands_in_active-clause-framed g c before container sibling framed put own =
    entered_together before (seen_tree (g.P.Owned.carried) c.args.tree.now c.args.self.now.held) _ container (c.args.node.0) c.args.document.0 sibling framed
    put own (node_there (g.P.Owned.carried) c.args.tree.now.nodes (c.args.node.0) c.requires)
    (subst MakeTrees (c.adopt.ensures.seen c.args.self.now.held) (trees_seen (g.P.Owned.carried) c.adopt.new.tree c.args.self.now.held
    c.stands_in_active.ensures.forest))
    (returns-else-stands_in_active-clause-inserted g c)
