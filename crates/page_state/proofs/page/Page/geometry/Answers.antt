-- What is shown of a page is that of its world.
use Rattle.std.proofs.Common.{◌≡◌, ℕ, false, ap, subst, sym, ◌∙◌}
use Rattle.page_model.specs.Shown.{shown_of}
use Rattle.page_boxes.specs.Kept.{is_due}
use Rattle.page_state.specs.Views.{PageView}
use Rattle.page_state.proofs.page.Page.geometry.Goals as goal

pub shown_now-requires-clause-done : goal.shown_now-requires-clause-done
shown_now-requires-clause-done c =
    subst (λ (v : PageView). (n : ℕ) → is_due v.world.tree v.world.viewports.screen v.kept n ≡ false) (sym c.self.view_is) c.requires

pub returns : goal.returns
returns c = c.shown_now.ensures ∙ ap (λ (v : PageView). shown_of v.world) c.self.view_is
