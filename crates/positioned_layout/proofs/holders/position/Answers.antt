use Rattle.std.proofs.Common.{ap, sym, ◌∙◌}
use Rattle.element_tree.proofs.Depths.{some_of_ids}
use Rattle.positioned_layout.proofs.Nodes.{position_child}
use Rattle.positioned_layout.proofs.holders.position.Goals as goal

pub returns-in-Some-clause-value : goal.returns-in-Some-clause-value
returns-in-Some-clause-value g c at are =
    let up = some_of_ids _ c.in-Some.field-0 (sym c.parent.ensures.value ∙ c.in-Some.is) in
    ap (λ s. s.position) c.style.ensures.value
    ∙ sym (position_child g.P.Placed.placed c.args.tree.now.nodes at are (c.args.node.0) (c.in-Some.field-0.0) c.payload.result.now up c.payload.ensures.value)
