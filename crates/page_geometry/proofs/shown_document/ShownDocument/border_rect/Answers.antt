use Rattle.px_units.specs.declared.BoxKind.TheVariants.{Border}
use Rattle.page_model.specs.Shown.{size_of, place_of}
use Rattle.page_geometry.proofs.Boxes.{rect_same}
use Rattle.page_geometry.proofs.shown_document.ShownDocument.border_rect.Goals as goal

pub returns-clause-value : goal.returns-clause-value
returns-clause-value c =
    let it = c.args.self.now.shown in
    let n = c.args.node.0 in
    rect_same c.rect_at.result c.place_of.result (place_of it n) c.size_of.result (size_of it n Border) c.place_of.ensures.value c.size_of.ensures.value c.rect_at.ensures.value
