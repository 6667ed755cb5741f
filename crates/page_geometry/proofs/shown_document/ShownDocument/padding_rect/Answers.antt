use Rattle.std.proofs.Common.{ap}
use Rattle.layout_model.specs.Boxes.{padding_corner}
use Rattle.page_model.specs.Chains.{padding_box_at}
use Rattle.page_model.specs.Shown.{box_of, place_of}
use Rattle.page_geometry.proofs.Boxes.{beside_is, padding_found, padding_right, padding_bottom}
use Rattle.page_geometry.proofs.shown_document.ShownDocument.padding_rect.Goals as goal

pub returns-in_default-clause-value : goal.returns-in_default-clause-value
returns-in_default-clause-value c = ap (padding_box_at (place_of c.args.self.now.shown (c.args.node.0))) c.in_default.ensures

pub rect_at-requires-clause-right : goal.rect_at-requires-clause-right
rect_at-requires-clause-right c =
    padding_right c.in-Some.own c.padding_corner.ensures.range c.place_of-place.result c.padding_corner.result c.beside.result c.padding_size.result
    c.padding_corner.ensures.value c.padding_size.ensures.value c.place_of-place.ensures.left c.beside.ensures.left

pub rect_at-requires-clause-bottom : goal.rect_at-requires-clause-bottom
rect_at-requires-clause-bottom c =
    padding_bottom c.in-Some.own c.padding_corner.ensures.range c.place_of-place.result c.padding_corner.result c.beside.result c.padding_size.result
    c.padding_corner.ensures.value c.padding_size.ensures.value c.place_of-place.ensures.top c.beside.ensures.top

pub returns-clause-value : goal.returns-clause-value
returns-clause-value c =
    let n = c.args.node.0 in
    let place = place_of c.args.self.now.shown n in
    padding_found place (box_of c.args.self.now.shown n) c.in-Some.own c.in-Some.ensures c.beside.result
    (beside_is c.place_of-place.result place (padding_corner c.in-Some.own) c.padding_corner.result c.beside.result c.place_of-place.ensures.value c.padding_corner.ensures.value
    c.beside.ensures.left c.beside.ensures.top)
    c.padding_size.result c.padding_size.ensures.value c.rect_at.result c.rect_at.ensures.value
