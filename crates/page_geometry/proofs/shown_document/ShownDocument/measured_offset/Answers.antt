use Rattle.std.proofs.Common.{ap, sym, subst, ◌∙◌, refl}
use Rattle.layout_model.specs.Reach.{range_of_view}
use Rattle.page_model.specs.World.{InDocument}
use Rattle.page_model.specs.Scrolls.{position_of, lesser_extent}
use Rattle.page_model.specs.PageBoxes.{extent_of, view_of}
use Rattle.scrolling.specs.Seen.{point_of}
use Rattle.block_layout.specs.Seen.{as_size}
use Rattle.block_layout.specs.Trees.{layout_tree}
use Rattle.page_tree.specs.Items.{style_in, kind_in}
use Rattle.page_boxes.specs.Fresh.{HoldsAll}
use Rattle.page_boxes.proofs.InForce.{view_start, view_within, view_rootless}
use Rattle.page_boxes.proofs.Reaching.{view_range}
use Rattle.page_geometry.proofs.shown_document.ShownDocument.measured_offset.Goals as goal

pub returns-then-is_at_start-clause-value : goal.returns-then-is_at_start-clause-value
returns-then-is_at_start-clause-value c =
    let it = c.args.self.now.shown in
    view_start it.tree it.screen it.scrolls c.args.self.now.document
    ((λ i. position_of (InDocument (sym c.document.ensures i)) (sym c.scrolls.ensures i)) ∙ c.is_at_start.ensures.start c.if-is_at_start.true)

pub returns-in-Some-clause-value : goal.returns-in-Some-clause-value
returns-in-Some-clause-value c =
    let it = c.args.self.now.shown in
    let view = view_of it.tree it.screen c.args.self.now.document in
    let nodes = c.elements.ensures.nodes in
    view_within it.tree it.screen it.scrolls c.args.self.now.document (as_size (range_of_view _ view)) c.shown_offset.result
    (ap (λ at. as_size (range_of_view at view)) (sym nodes) ∙ ap as_size (view_range it.tree it.screen c.args.self.now.document))
    (c.shown_offset.ensures.value (sym (ap (λ at. (at (c.in-Some.shown.root.0)).parent) nodes) ∙ c.in-Some.ensures.top) view c.in-Some.ensures.shown
    (subst (λ at. HoldsAll at view c.boxes.result.now) nodes c.boxes.ensures.fresh)
    ∙ (λ i. point_of (lesser_extent (position_of (InDocument (c.document.ensures i)) (c.scrolls-in-Some.ensures i)) (extent_of (range_of_view (layout_tree style_in kind_in c.elements.result.now.nodes) view)))))

pub returns-in-None-clause-value : goal.returns-in-None-clause-value
returns-in-None-clause-value c =
    let it = c.args.self.now.shown in view_rootless it.tree it.screen it.scrolls c.args.self.now.document (c.in-None.ensures.nothing refl)
