use Rattle.std.proofs.Common.{◌≤◌, length, Some, None, ap, sym, ◌∙◌, arith}
use Rattle.std.proofs.lemmas.Bool.Decides.{nat_tests}
use Rattle.std.specs.Prelude.{◌&&◌, not}
use Rattle.layout_model.specs.Nodes.{Node}
use Rattle.element_tree.proofs.Depths.{some_of_ids, none_of_ids}
use Rattle.element_tree.proofs.Facts.{parent_in_range}
use Rattle.block_layout.specs.Trees.{layout_tree}
use Rattle.block_layout.proofs.Nodes.{parent_is}
use Rattle.kept_layout.specs.Measures.{is_inside}
use Rattle.kept_layout.proofs.Missing.{missing_past}
use Rattle.kept_layout.proofs.measures.takes_part.Goals as goal

pub returns-then-not-holds-clause-value : goal.returns-then-not-holds-clause-value
returns-then-not-holds-clause-value g c =
    let past : length c.args.tree.now.nodes ≤ c.args.node.0 = grind (arith, nat_tests, c.holds.ensures.value, c.if-not-holds.true) in
    sym (ap (λ (node : Node). not node.item.style.hidden && is_inside (layout_tree g.P.Styled.style g.P.Styled.kind c.args.tree.now.nodes) node.parent) (missing_past g.P.Styled.style g.P.Styled.kind c.args.tree.now.nodes (c.args.node.0) past))

pub is_block-requires : goal.is_block-requires
is_block-requires g c =
    parent_in_range c.parent.ensures.forest (c.args.node.0) (c.in-Some.parent.0) (some_of_ids _ c.in-Some.parent (sym c.parent.ensures.value ∙ c.in-Some.is))

pub returns-in-Some-clause-value : goal.returns-in-Some-clause-value
returns-in-Some-clause-value g c =
    let at = layout_tree g.P.Styled.style g.P.Styled.kind c.args.tree.now.nodes in
    c.is_block.ensures.value
    ∙ sym (ap (λ parent. not (at (c.args.node.0)).item.style.hidden && is_inside at parent) (parent_is g.P.Styled.style g.P.Styled.kind c.args.tree.now.nodes (c.args.node.0) ∙ some_of_ids _ c.in-Some.parent (sym c.parent.ensures.value ∙ c.in-Some.is))
    ∙ ap (λ hidden. not hidden && is_inside at (Some (c.in-Some.parent.0))) (sym c.is_hidden.ensures.value ∙ c.if-is_hidden.false))

pub returns-in-None-clause-value : goal.returns-in-None-clause-value
returns-in-None-clause-value g c =
    let at = layout_tree g.P.Styled.style g.P.Styled.kind c.args.tree.now.nodes in
    sym (ap (λ parent. not (at (c.args.node.0)).item.style.hidden && is_inside at parent) (parent_is g.P.Styled.style g.P.Styled.kind c.args.tree.now.nodes (c.args.node.0) ∙ none_of_ids _ (sym c.parent.ensures.value ∙ c.in-None.is))
    ∙ ap (λ hidden. not hidden && is_inside at None) (sym c.is_hidden.ensures.value ∙ c.if-is_hidden.false))
