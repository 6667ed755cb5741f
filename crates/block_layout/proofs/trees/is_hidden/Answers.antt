use Rattle.std.proofs.Common.{ap, sym, ◌∙◌}
use Rattle.style_values.specs.Seen.{seen_display}
use Rattle.block_layout.proofs.Nodes.{hidden_is}
use Rattle.block_layout.proofs.trees.is_hidden.Goals as goal

pub returns-in-Hidden-clause-value : goal.returns-in-Hidden-clause-value
returns-in-Hidden-clause-value g c =
    sym
    (hidden_is g.P.Styled.style g.P.Styled.kind c.args.tree.now.nodes (c.args.node.0) _ c.payload.ensures.value
    ∙ sym (ap (λ style. style.hidden) c.style.ensures.value) ∙ ap seen_display c.in-Hidden.is)

pub returns-in-Block-clause-value : goal.returns-in-Block-clause-value
returns-in-Block-clause-value g c =
    sym
    (hidden_is g.P.Styled.style g.P.Styled.kind c.args.tree.now.nodes (c.args.node.0) _ c.payload.ensures.value
    ∙ sym (ap (λ style. style.hidden) c.style.ensures.value) ∙ ap seen_display c.in-Block.is)
