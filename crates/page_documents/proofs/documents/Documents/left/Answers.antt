use Rattle.std.proofs.Common.{◌≡◌, sym, subst, rules}
use Rattle.page_model.specs.Documents.{is_active}
use Rattle.page_documents.specs.Seen.{seen_tree}
use Rattle.page_documents.specs.Held.{HeldDocuments, ending}
use Rattle.page_documents.specs.Frames.{AreFramed}
use Rattle.page_documents.proofs.Between.{left_together}
use Rattle.page_documents.proofs.documents.Documents.left.Goals as goal

pub returns-then-is_in-clause-framed : goal.returns-then-is_in-clause-framed
returns-then-is_in-clause-framed g c before framed out =
    let ended : c.change_inside.new.self ≡ ending (is_active (seen_tree (g.P.Owned.carried) c.args.tree.now c.args.self.now.held) c.args.document.0)
    (seen_tree (g.P.Owned.carried) c.args.tree.now c.args.self.now.held) (c.args.node.0) c.args.self.now = search rules in
    subst (λ (it : HeldDocuments). AreFramed (seen_tree (g.P.Owned.carried) c.args.tree.now it.held)) (sym ended)
    (left_together before (seen_tree (g.P.Owned.carried) c.args.tree.now c.args.self.now.held) (c.args.node.0) c.args.document.0 framed out)

pub returns-else-is_in-clause-framed : goal.returns-else-is_in-clause-framed
returns-else-is_in-clause-framed g c before framed out =
    let ended : c.args.self.now ≡ ending (is_active (seen_tree (g.P.Owned.carried) c.args.tree.now c.args.self.now.held) c.args.document.0)
    (seen_tree (g.P.Owned.carried) c.args.tree.now c.args.self.now.held) (c.args.node.0) c.args.self.now = search rules in
    subst (λ (it : HeldDocuments). AreFramed (seen_tree (g.P.Owned.carried) c.args.tree.now it.held)) (sym ended)
    (left_together before (seen_tree (g.P.Owned.carried) c.args.tree.now c.args.self.now.held) (c.args.node.0) c.args.document.0 framed out)
