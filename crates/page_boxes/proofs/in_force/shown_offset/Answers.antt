use Rattle.std.proofs.Common.{ap, ◌∙◌}
use Rattle.layout_model.specs.Reach.{range_of_view}
use Rattle.page_model.specs.Scrolls.{position_of, lesser_extent}
use Rattle.container_model.specs.Seen.{seen_container}
use Rattle.scrolling.specs.Seen.{seen_size, point_of}
use Rattle.block_layout.specs.Trees.{layout_tree}
use Rattle.page_boxes.proofs.Reaching.{low_viewed}
use Rattle.page_boxes.proofs.in_force.shown_offset.Goals as goal

pub returns-in-Some-clause-value : goal.returns-in-Some-clause-value
returns-in-Some-clause-value g c top view is holds =
    let at = layout_tree g.P.Styled.style g.P.Styled.kind c.args.tree.now.nodes in
    c.in-Some.ensures.value (range_of_view at view) (c.root_range.ensures.within top view is holds) (low_viewed at view)

pub returns-in-None-clause-value : goal.returns-in-None-clause-value
returns-in-None-clause-value g c top view is holds =
    c.offset_in_force.ensures.value
    ∙ ap (λ range. point_of (lesser_extent (position_of (seen_container c.args.target) c.args.scrolls.now) (seen_size range))) (c.shown_range.ensures.value top view is holds)
