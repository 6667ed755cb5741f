-- What an element stands for as something is scrolled.
use Rattle.std.proofs.Common.{◌≡◌, true, false, ap, ◌∙◌}
use Rattle.page_model.specs.World.{Tree}
use Rattle.page_model.specs.Lookups.{element_at}
use Rattle.page_model.specs.PageBoxes.{is_scroller}
use Rattle.page_model.specs.Scrolling.{scrolled_element}
use Rattle.page_boxes.specs.Pages.{seen_screen}
use Rattle.page_state.specs.Views.{PageView}
use Rattle.page_state.proofs.page.Page.scrolled_element.Goals as goal

pub returns-then-is_scroller : goal.returns-then-is_scroller
returns-then-is_scroller c =
    let world = c.args.self.now.world in
    let scrolls : true ≡ is_scroller world.tree world.viewports.screen c.args.node.0 =
    c.if-is_scroller.ensures (seen_screen c.self.inside.screen)
    ∙ ap (λ (tree : Tree). is_scroller tree (seen_screen c.self.inside.screen) c.args.node.0) c.page-2.ensures.tree
    ∙ ap (λ (v : PageView). is_scroller v.world.tree v.world.viewports.screen c.args.node.0) c.self.view_is in
    λ i. scrolled_element c.args.node.0 (element_at (world.tree) c.args.node.0).document (c.if-is_root_element.ensures i) (scrolls i)

pub returns-else-is_scroller : goal.returns-else-is_scroller
returns-else-is_scroller c =
    let world = c.args.self.now.world in
    let scrolls : false ≡ is_scroller world.tree world.viewports.screen c.args.node.0 =
    c.if-is_scroller.ensures (seen_screen c.self.inside.screen)
    ∙ ap (λ (tree : Tree). is_scroller tree (seen_screen c.self.inside.screen) c.args.node.0) c.page-2.ensures.tree
    ∙ ap (λ (v : PageView). is_scroller v.world.tree v.world.viewports.screen c.args.node.0) c.self.view_is in
    λ i. scrolled_element c.args.node.0 (element_at (world.tree) c.args.node.0).document (c.if-is_root_element.ensures i) (scrolls i)
