use Rattle.std.proofs.Common.{ℕ, cond, refl}
use Rattle.layout_model.specs.Clips.{is_scroll_container}
use Rattle.layout_model.specs.Reach.{range_of}
use Rattle.block_layout.specs.Seen.{as_size}
use Rattle.block_layout.specs.Trees.{layout_tree}
use Rattle.page_boxes.proofs.InForce.{boxed_start, boxed_within}
use Rattle.page_boxes.proofs.Reaching.{low_boxed}
use Rattle.page_boxes.proofs.in_force.boxed_offset.Goals as goal

pub returns-then-is_at_start-clause-value : goal.returns-then-is_at_start-clause-value
returns-then-is_at_start-clause-value g c view sized holds boxed =
    boxed_start (layout_tree g.P.Styled.style g.P.Styled.kind c.args.tree.now.nodes) c.args.scrolls.now view (c.args.node.0) (c.is_at_start.ensures.start c.if-is_at_start.true)

pub returns-in-Some-clause-value : goal.returns-in-Some-clause-value
returns-in-Some-clause-value g c view sized holds boxed =
    let at = layout_tree g.P.Styled.style g.P.Styled.kind c.args.tree.now.nodes in
    let n = c.args.node.0 in
    let range : ℕ × ℕ = cond (is_scroll_container (at n)) (range_of at view n) (0, 0) in
    boxed_within at c.args.scrolls.now view n (as_size range) c.in-Some.stored refl
    (c.in-Some.ensures.value range (c.last_range.ensures.within view holds boxed) (low_boxed at view n (is_scroll_container (at n))))

pub returns-in-None-clause-value : goal.returns-in-None-clause-value
returns-in-None-clause-value g c view sized holds boxed =
    boxed_within (layout_tree g.P.Styled.style g.P.Styled.kind c.args.tree.now.nodes) c.args.scrolls.now view (c.args.node.0)
    c.boxed_range-range.result c.offset_in_force.result (c.boxed_range-range.ensures.value view sized holds boxed) c.offset_in_force.ensures.value
