use Rattle.std.proofs.Common.{sym, ◌∙◌}
use Rattle.element_tree.proofs.Closed.{there_at}
use Rattle.element_tree.proofs.Chain.{linked_chain}
use Rattle.element_tree.proofs.links.link.Goals as goal

pub set_following-requires-clause-previous : goal.set_following-requires-clause-previous
set_following-requires-clause-previous g c x e =
    there_at _ (c.args.parent.0) c.args.mark c.requires.closed x (sym c.previous_to-previous.ensures ∙ e)

pub returns : goal.returns
returns g c =
    linked_chain _ _ _ _ (c.args.parent.0) (c.args.node.0) c.args.mark _ _
    c.previous_to-previous.ensures c.links_of-own.ensures
    c.set_following.ensures c.set_leading.ensures c.set_links.ensures
