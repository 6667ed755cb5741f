use Rattle.std.proofs.Common.{◌≡◌, ◌∙◌, ap, arith}
use Rattle.slab.specs.Slab.{Slab}
use Rattle.element_tree.specs.declared.node.Entry.{Entry}
use Rattle.element_tree.proofs.Closing.{IsSound-kept, seen-kept, IsSound-added, seen-added}
use Rattle.element_tree.proofs.tree.Tree.add.Goals as goal

pub invariant_of-self : goal.invariant_of-self
invariant_of-self g c = IsSound-kept c.reserve.new.self c.self.invariant (ap (λ (s : Slab (Entry g.row.P.Denot)). s.slots) c.reserve.ensures.rest_kept)

pub returns-then-is_err-clause-same : goal.returns-then-is_err-clause-same
returns-then-is_err-clause-same g c =
    seen-kept c.reserve.new.self c.self.invariant (ap (λ (s : Slab (Entry g.row.P.Denot)). s.slots) c.reserve.ensures.rest_kept) c.args.self.now c.self.view_is

pub invariant_of-self-2 : goal.invariant_of-self-2
invariant_of-self-2 g c =
    let key : c.insert_reserved.result ≡ c.self.inside.count
    = c.insert_reserved.ensures.key ∙ ap (λ (s : Slab (Entry g.row.P.Denot)). s.vacant_key) c.reserve.ensures.rest_kept ∙ omega arith in
    IsSound-added c.self.invariant (ap (λ (s : Slab (Entry g.row.P.Denot)). s.slots) c.reserve.ensures.rest_kept)
    c.args.payload c.detached.result c.detached.ensures c.insert_reserved.result key c.insert_reserved.ensures.was_vacant c.insert_reserved.ensures.updates (omega arith)

pub returns-clause-added : goal.returns-clause-added
returns-clause-added g c =
    let key : c.insert_reserved.result ≡ c.self.inside.count
    = c.insert_reserved.ensures.key ∙ ap (λ (s : Slab (Entry g.row.P.Denot)). s.vacant_key) c.reserve.ensures.rest_kept ∙ omega arith in
    seen-added c.self.invariant (ap (λ (s : Slab (Entry g.row.P.Denot)). s.slots) c.reserve.ensures.rest_kept)
    c.args.payload c.detached.result c.detached.ensures c.insert_reserved.result key c.insert_reserved.ensures.was_vacant c.insert_reserved.ensures.updates (omega arith)
    c.args.self.now c.self.view_is
