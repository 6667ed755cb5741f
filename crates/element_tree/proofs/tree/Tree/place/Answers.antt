use Rattle.element_tree.proofs.Moves.{IsClosed-from}
use Rattle.element_tree.proofs.Closing.{closed_middle, parent_there, node_there, mark_there, IsSound-placed, seen-placed, same_count}
use Rattle.element_tree.proofs.tree.Tree.place.Goals as goal

pub unlink-requires-clause-closed : goal.unlink-requires-clause-closed
unlink-requires-clause-closed g c = IsClosed-from c.self.invariant.stands

pub link-requires-clause-parent : goal.link-requires-clause-parent
link-requires-clause-parent g c =
    parent_there c.self.invariant c.args.self.now c.self.view_is (c.args.parent.0) (c.args.child.0) c.args.mark
    c.requires.child c.requires.parent c.requires.apart c.requires.fits c.requires.mark c.unlink.ensures

pub link-requires-clause-node : goal.link-requires-clause-node
link-requires-clause-node g c =
    node_there c.self.invariant c.args.self.now c.self.view_is (c.args.parent.0) (c.args.child.0) c.args.mark
    c.requires.child c.requires.parent c.requires.apart c.requires.fits c.requires.mark c.unlink.ensures

pub link-requires-clause-mark : goal.link-requires-clause-mark
link-requires-clause-mark g c =
    mark_there c.self.invariant c.args.self.now c.self.view_is (c.args.parent.0) (c.args.child.0) c.args.mark
    c.requires.child c.requires.parent c.requires.apart c.requires.fits c.requires.mark c.unlink.ensures

pub link-requires-clause-closed : goal.link-requires-clause-closed
link-requires-clause-closed g c =
    closed_middle c.self.invariant c.args.self.now c.self.view_is (c.args.parent.0) (c.args.child.0) c.args.mark
    c.requires.child c.requires.parent c.requires.apart c.requires.fits c.requires.mark c.unlink.ensures

pub invariant_of-self : goal.invariant_of-self
invariant_of-self g c =
    IsSound-placed c.self.invariant c.args.self.now c.self.view_is (c.args.parent.0) (c.args.child.0) c.args.mark
    c.requires.child c.requires.parent c.requires.apart c.requires.fits c.requires.mark c.unlink.ensures c.link.ensures

pub returns-clause-placed : goal.returns-clause-placed
returns-clause-placed g c =
    seen-placed c.self.invariant c.args.self.now c.self.view_is (c.args.parent.0) (c.args.child.0) c.args.mark
    c.requires.child c.requires.parent c.requires.apart c.requires.fits c.requires.mark c.unlink.ensures c.link.ensures

pub returns-clause-count : goal.returns-clause-count
returns-clause-count g c = same_count c.self.invariant (invariant_of-self g c) c.args.self.now c.self.view_is
