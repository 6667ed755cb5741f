use Rattle.std.proofs.Common.{Some, sym, ap, ◌∙◌}
use Rattle.page_documents.specs.Seen.{seen_tree}
use Rattle.page_documents.proofs.Seen.{owner_seen}
use Rattle.page_documents.proofs.Roots.{root_alone, not_standing, standing}
use Rattle.page_documents.proofs.adoption.tree_document.Goals as goal

pub returns-then-not-is_root_element-clause-value : goal.returns-then-not-is_root_element-clause-value
returns-then-not-is_root_element-clause-value g c =
    not_standing (seen_tree (g.P.Owned.carried) c.args.tree.now c.args.entries.now) (c.args.node.0) (c.top_of.result.0)
    (c.top_of.ensures.value ∙ root_alone (g.P.Owned.carried) c.args.tree.now c.args.entries.now (c.args.node.0))
    (sym c.is_root_element.ensures ∙ c.if-not-is_root_element.true)

pub returns-clause-value : goal.returns-clause-value
returns-clause-value g c =
    ap Some (c.document.ensures ∙ sym (owner_seen (g.P.Owned.carried) c.args.tree.now c.args.entries.now (c.args.node.0) c.payload.result.now
    c.payload.ensures.value))
    ∙ standing (seen_tree (g.P.Owned.carried) c.args.tree.now c.args.entries.now) (c.args.node.0) (c.top_of.result.0)
    (c.top_of.ensures.value ∙ root_alone (g.P.Owned.carried) c.args.tree.now c.args.entries.now (c.args.node.0))
    (sym c.is_root_element.ensures ∙ c.if-not-is_root_element.false)
