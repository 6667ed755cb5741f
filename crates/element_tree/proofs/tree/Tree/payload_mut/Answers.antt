use Rattle.std.proofs.Common.{refl}
use Rattle.element_tree.proofs.Closing.{IsSound-written, seen-written, payload_seen}
use Rattle.element_tree.proofs.tree.Tree.payload_mut.Goals as goal

pub invariant_of-self-lent : goal.invariant_of-self-lent
invariant_of-self-lent g c w =
    IsSound-written c.self.invariant c.args.self.now c.self.view_is (c.args.node.0) c.requires c.index_mut-entry.result.now c.index_mut-entry.ensures.value w

pub returns : goal.returns
returns g c = (
  (refl, λ w. seen-written c.self.invariant c.args.self.now c.self.view_is (c.args.node.0) c.requires c.index_mut-entry.result.now c.index_mut-entry.ensures.value w),
  record {
    writes_back = tt;
    value = payload_seen c.self.invariant c.args.self.now c.self.view_is (c.args.node.0) c.requires c.index_mut-entry.result.now c.index_mut-entry.ensures.value;
  },
)
