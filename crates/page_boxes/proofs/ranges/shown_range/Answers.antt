use Rattle.std.proofs.Common.{refl, ap, sym, subst, ◌∙◌}
use Rattle.layout_model.specs.Views.{View, view_size}
use Rattle.element_tree.specs.declared.tree.Tree.{Tree}
use Rattle.block_layout.specs.Trees.{layout_tree}
use Rattle.block_layout.proofs.Nodes.{parent_is}
use Rattle.positioned_layout.specs.Measured.{AreMeasuresOf}
use Rattle.kept_layout.proofs.Held.{tree_nodes}
use Rattle.kept_layout.proofs.Measuring.{same_measures}
use Rattle.page_boxes.proofs.Sized.{sized_shown, natural_span}
use Rattle.page_boxes.proofs.Reaching.{range_viewed}
use Rattle.page_boxes.proofs.ranges.shown_range.Goals as goal

pub reach-reach-requires-clause-view : goal.reach-reach-requires-clause-view
reach-reach-requires-clause-view g c = natural_span c.args.shown.size c.requires.size

pub returns-clause-value : goal.returns-clause-value
returns-clause-value g c top view is holds =
    let at = layout_tree g.P.Styled.style g.P.Styled.kind c.args.tree.now.nodes in
    let measured = subst (AreMeasuresOf at view)
    (sym (same_measures g.P.Styled.style g.P.Styled.kind _ _ _ _ (ap (λ (t : Tree g.row.P.Denot). t.nodes) c.measures.ensures.tree) c.measures.ensures.kept))
    (c.measures.ensures.all view (sized_shown (c.args.shown.root.0) c.args.shown.size c.requires.size view is) (λ m inputs found. holds.boxes m inputs found)) in
    let reached = c.reach-reach.ensures.viewport refl (sym (parent_is g.P.Styled.style g.P.Styled.kind c.args.tree.now.nodes (c.args.shown.root.0)) ∙ top) at view
    (tree_nodes g.P.Styled.style g.P.Styled.kind c.args.tree.now.nodes) (ap (λ (v : View). v.root) is) (ap (λ (v : View). v.width) is) (ap (λ (v : View). v.height) is) measured in
    range_viewed at view c.reach-reach.result c.args.shown.size c.range_between.result reached (sym (ap view_size is)) c.range_between.ensures.value
