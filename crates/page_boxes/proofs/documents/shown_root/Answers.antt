use Rattle.std.proofs.Common.{ap, ◌∙◌}
use Rattle.layout_model.specs.Views.{View}
use Rattle.page_boxes.proofs.Views.{view_whole}
use Rattle.page_boxes.proofs.documents.shown_root.Goals as goal

pub returns : goal.returns
returns c screen = c.root_up.ensures screen ∙ ap (λ (view : View). view.root) (view_whole c.args.page.now.tree screen c.args.document.0)
