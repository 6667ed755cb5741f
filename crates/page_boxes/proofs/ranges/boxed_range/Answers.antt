use Rattle.std.proofs.Common.{ap, sym, subst, ◌∙◌}
use Rattle.element_tree.specs.declared.tree.Tree.{Tree}
use Rattle.block_layout.specs.Trees.{layout_tree}
use Rattle.positioned_layout.specs.Measured.{AreMeasuresOf}
use Rattle.kept_layout.proofs.Held.{tree_nodes}
use Rattle.kept_layout.proofs.Measuring.{same_measures}
use Rattle.page_boxes.proofs.Reaching.{range_none, box_missing, range_boxed}
use Rattle.page_boxes.proofs.ranges.boxed_range.Goals as goal

pub returns-then-not-is_scroll_container-clause-value : goal.returns-then-not-is_scroll_container-clause-value
returns-then-not-is_scroll_container-clause-value g c view sized holds boxed =
    range_none (layout_tree g.P.Styled.style g.P.Styled.kind c.args.tree.now.nodes) view (c.args.node.0) (sym c.is_scroll_container.ensures.value ∙ c.if-not-is_scroll_container.true)

pub returns-in_default-clause-value : goal.returns-in_default-clause-value
returns-in_default-clause-value g c view sized holds boxed =
    absurd
    (box_missing (layout_tree g.P.Styled.style g.P.Styled.kind c.args.tree.now.nodes) view (c.args.node.0) c.args.boxes.now holds boxed
    (sym c.in_default.is ∙ c.box_of.ensures))

pub returns-clause-value : goal.returns-clause-value
returns-clause-value g c view sized holds boxed =
    let at = layout_tree g.P.Styled.style g.P.Styled.kind c.args.tree.now.nodes in
    let measured = subst (AreMeasuresOf at view)
    (sym (same_measures g.P.Styled.style g.P.Styled.kind _ _ _ _ (ap (λ (t : Tree g.row.P.Denot). t.nodes) c.measures.ensures.tree) c.measures.ensures.kept))
    (c.measures.ensures.all view sized (λ m inputs is. holds.boxes m inputs is)) in
    range_boxed at view (c.args.node.0) c.args.boxes.now holds boxed
    (sym c.is_scroll_container.ensures.value ∙ c.if-not-is_scroll_container.false) c.in-Some.own c.in-Some.ensures
    c.reach-reach.result c.padding_size.result c.range_between.result
    (λ inputs is. c.reach-reach.ensures.container at view inputs (tree_nodes g.P.Styled.style g.P.Styled.kind c.args.tree.now.nodes) measured is)
    c.padding_size.ensures.value c.range_between.ensures.value
