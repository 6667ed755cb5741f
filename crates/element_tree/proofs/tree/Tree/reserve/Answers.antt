use Rattle.std.proofs.Common.{ap}
use Rattle.slab.specs.Slab.{Slab}
use Rattle.element_tree.specs.declared.node.Entry.{Entry}
use Rattle.element_tree.proofs.Closing.{IsSound-kept, seen-kept}
use Rattle.element_tree.proofs.tree.Tree.reserve.Goals as goal

pub invariant_of-self : goal.invariant_of-self
invariant_of-self g c = IsSound-kept c.reserve.new.self c.self.invariant (ap (λ (s : Slab (Entry g.row.P.Denot)). s.slots) c.reserve.ensures.rest_kept)

pub invariant_of-self-2 : goal.invariant_of-self-2
invariant_of-self-2 g c = IsSound-kept c.reserve.new.self c.self.invariant (ap (λ (s : Slab (Entry g.row.P.Denot)). s.slots) c.reserve.ensures.rest_kept)

pub returns-then-is_err-clause-same : goal.returns-then-is_err-clause-same
returns-then-is_err-clause-same g c =
    seen-kept c.reserve.new.self c.self.invariant (ap (λ (s : Slab (Entry g.row.P.Denot)). s.slots) c.reserve.ensures.rest_kept) c.args.self.now c.self.view_is

pub returns-clause-same : goal.returns-clause-same
returns-clause-same g c =
    seen-kept c.reserve.new.self c.self.invariant (ap (λ (s : Slab (Entry g.row.P.Denot)). s.slots) c.reserve.ensures.rest_kept) c.args.self.now c.self.view_is
