-- No box is due, so that all are held as they are now.
use Rattle.std.proofs.Common.{ap, ◌∙◌}
use Rattle.page_model.specs.World.{Tree}
use Rattle.page_model.specs.Shown.{shown_with}
use Rattle.page_boxes.specs.Pages.{seen_screen}
use Rattle.page_state.proofs.Laid.{fresh_in}
use Rattle.page_state.proofs.page.shown_now.Goals as goal

pub new-requires-clause-fresh : goal.new-requires-clause-fresh
new-requires-clause-fresh c = fresh_in (c.boxes.ensures.fresh (seen_screen c.args.screen) c.requires.done) c.page.ensures.tree c.boxes.ensures.value

pub returns : goal.returns
returns c = c.new.ensures ∙ ap (λ (tree : Tree). shown_with tree (seen_screen c.args.screen) c.args.scrolls.now) c.page.ensures.tree
