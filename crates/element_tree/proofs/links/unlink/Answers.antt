use Rattle.element_tree.proofs.Closed.{closed_at, still_there}
use Rattle.element_tree.proofs.links.unlink.Goals as goal

pub set_following-requires-clause-parent : goal.set_following-requires-clause-parent
set_following-requires-clause-parent g c =
    (closed_at (c.args.node.0) _ c.links_of-links.ensures c.requires.closed).parent _ c.in-Some.is

pub set_following-requires-clause-previous : goal.set_following-requires-clause-previous
set_following-requires-clause-previous g c =
    (closed_at (c.args.node.0) _ c.links_of-links.ensures c.requires.closed).previous

pub set_leading-requires-clause-parent : goal.set_leading-requires-clause-parent
set_leading-requires-clause-parent g c =
    still_there (c.in-Some.parent.0) c.set_following.ensures
    ((closed_at (c.args.node.0) _ c.links_of-links.ensures c.requires.closed).parent _ c.in-Some.is)

pub set_leading-requires-clause-next : goal.set_leading-requires-clause-next
set_leading-requires-clause-next g c x e =
    still_there (x.0) c.set_following.ensures
    ((closed_at (c.args.node.0) _ c.links_of-links.ensures c.requires.closed).next x e)
