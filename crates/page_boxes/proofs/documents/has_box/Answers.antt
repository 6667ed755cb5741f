use Rattle.std.proofs.Common.{ap, ◌∙◌}
use Rattle.page_model.specs.PageBoxes.{view_of}
use Rattle.page_boxes.proofs.documents.has_box.Goals as goal

pub returns : goal.returns
returns c screen =
    c.has_box_below.ensures screen (c.shown_root-root.ensures screen ∙ ap (λ document. (view_of c.args.page.now.tree screen document).root) c.document_of.ensures)
