use Rattle.std.proofs.Common.{ap, ◌∙◌}
use Rattle.layout_model.specs.Boxes.{inner_corner}
use Rattle.page_model.specs.Chains.{content_corner_at}
use Rattle.page_model.specs.Shown.{box_of, place_of}
use Rattle.page_geometry.proofs.Boxes.{beside_is, content_found}
use Rattle.page_geometry.proofs.shown_document.ShownDocument.content_origin.Goals as goal

pub returns-in-Some-clause-value : goal.returns-in-Some-clause-value
returns-in-Some-clause-value c =
    let n = c.args.node.0 in
    let place = place_of c.args.self.now.shown n in
    content_found place (box_of c.args.self.now.shown n) c.in-Some.own c.in-Some.ensures c.beside.result
    (beside_is c.place_of-place.result place (inner_corner c.in-Some.own) c.inner.result c.beside.result c.place_of-place.ensures.value c.inner.ensures.value
    c.beside.ensures.left c.beside.ensures.top)

pub returns-in-None-clause-value : goal.returns-in-None-clause-value
returns-in-None-clause-value c =
    c.place_of-place.ensures.value ∙ ap (content_corner_at (place_of c.args.self.now.shown (c.args.node.0))) c.in-None.ensures
