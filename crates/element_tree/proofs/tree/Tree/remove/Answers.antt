use Rattle.std.proofs.Common.{sym, subst, ◌<◌, length}
use Rattle.element_tree.specs.Forest.{Forest}
use Rattle.element_tree.proofs.Moves.{IsClosed-from}
use Rattle.element_tree.proofs.Closing.{IsSound-removed, seen-removed, same_count}
use Rattle.element_tree.proofs.tree.Tree.remove.Goals as goal

pub unlink-requires-clause-closed : goal.unlink-requires-clause-closed
unlink-requires-clause-closed g c = IsClosed-from c.self.invariant.stands

pub invariant_of-self : goal.invariant_of-self
invariant_of-self g c =
    IsSound-removed c.self.invariant (c.args.node.0)
    (subst (λ (f : Forest g.row.P.Denot). c.args.node.0 < length f.nodes) (sym c.self.view_is) c.requires) c.unlink.ensures

pub returns-clause-removed : goal.returns-clause-removed
returns-clause-removed g c =
    seen-removed c.self.invariant (c.args.node.0)
    (subst (λ (f : Forest g.row.P.Denot). c.args.node.0 < length f.nodes) (sym c.self.view_is) c.requires) c.unlink.ensures
    c.args.self.now c.self.view_is

pub returns-clause-count : goal.returns-clause-count
returns-clause-count g c = same_count c.self.invariant (invariant_of-self g c) c.args.self.now c.self.view_is
