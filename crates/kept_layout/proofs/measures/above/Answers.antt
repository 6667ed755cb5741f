use Rattle.std.proofs.Common.{ap, sym, ◌∙◌}
use Rattle.element_tree.proofs.Depths.{some_of_ids, none_of_ids}
use Rattle.block_layout.proofs.Nodes.{parent_is}
use Rattle.kept_layout.specs.Measures.{above_kept}
use Rattle.kept_layout.proofs.measures.above.Goals as goal

pub returns-in-Some-clause-value : goal.returns-in-Some-clause-value
returns-in-Some-clause-value g c =
    c.capped.ensures.value
    ∙ sym (ap (above_kept c.args.kept) (parent_is g.P.Styled.style g.P.Styled.kind c.args.tree.now.nodes (c.args.node.0) ∙ some_of_ids _ c.in-Some.field-0 (sym c.parent.ensures.value ∙ c.in-Some.is)))

pub returns-in-None-clause-value : goal.returns-in-None-clause-value
returns-in-None-clause-value g c =
    sym (ap (above_kept c.args.kept) (parent_is g.P.Styled.style g.P.Styled.kind c.args.tree.now.nodes (c.args.node.0) ∙ none_of_ids _ (sym c.parent.ensures.value ∙ c.in-None.is)))
