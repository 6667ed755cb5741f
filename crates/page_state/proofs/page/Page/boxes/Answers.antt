-- What is kept fits the page.
use Rattle.std.proofs.Common.{subst}
use Rattle.page_boxes.specs.Kept.{AreKept, IsExact}
use Rattle.page_boxes.specs.Pages.{seen_screen}
use Rattle.page_state.specs.Views.{PageView}
use Rattle.page_state.proofs.page.Page.boxes.Goals as goal

pub returns-clause-kept : goal.returns-clause-kept
returns-clause-kept c = subst (λ (v : PageView). AreKept v.world.tree v.kept) c.self.view_is c.boxes.ensures.kept

pub returns-clause-exact : goal.returns-clause-exact
returns-clause-exact c = subst (λ (v : PageView). IsExact v.world.tree v.world.viewports.screen v.kept) c.self.view_is (c.boxes.ensures.exact (seen_screen c.self.inside.screen))
