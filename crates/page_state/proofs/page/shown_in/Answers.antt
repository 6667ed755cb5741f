-- What is handed out are the tree and the boxes.
use Rattle.std.proofs.Common.{ap, ◌∙◌}
use Rattle.page_model.specs.World.{Tree}
use Rattle.page_model.specs.Shown.{shown_with}
use Rattle.page_boxes.specs.Pages.{seen_screen}
use Rattle.page_geometry.specs.Documents.{ShownIn}
use Rattle.page_state.proofs.page.shown_in.Goals as goal

pub returns : goal.returns
returns c =
    c.new.ensures
    ∙ ap (λ (tree : Tree). let it : ShownIn = record { shown = shown_with tree (seen_screen c.args.screen) c.args.scrolls.now; document = c.args.document.0 } in it) c.page.ensures.tree
