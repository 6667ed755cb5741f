use Rattle.std.proofs.Common.{ap, sym, subst, ◌∙◌, refl}
use Rattle.page_model.specs.PageBoxes.{view_of}
use Rattle.layout_model.specs.Reach.{range_of_view}
use Rattle.block_layout.specs.Seen.{as_size}
use Rattle.page_boxes.specs.Fresh.{HoldsAll}
use Rattle.page_boxes.proofs.Reaching.{view_range, view_rangeless}
use Rattle.page_geometry.proofs.shown_document.ShownDocument.view_range.Goals as goal

pub returns-in-Some-clause-value : goal.returns-in-Some-clause-value
returns-in-Some-clause-value c =
    let it = c.args.self.now.shown in
    let view = view_of it.tree it.screen c.args.self.now.document in
    let nodes = c.elements.ensures.nodes in
    c.shown_range.ensures.value (sym (ap (λ at. (at (c.in-Some.shown.root.0)).parent) nodes) ∙ c.in-Some.ensures.top) view c.in-Some.ensures.shown
    (subst (λ at. HoldsAll at view c.boxes.result.now) nodes c.boxes.ensures.fresh)
    ∙ ap (λ at. as_size (range_of_view at view)) (sym nodes)
    ∙ ap as_size (view_range it.tree it.screen c.args.self.now.document)

pub returns-in-None-clause-value : goal.returns-in-None-clause-value
returns-in-None-clause-value c = view_rangeless c.args.self.now.shown.tree c.args.self.now.shown.screen c.args.self.now.document (c.in-None.ensures.nothing refl)
