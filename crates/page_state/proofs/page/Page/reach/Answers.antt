-- How far something is scrolled and can be, of boxes as they are now.
use Rattle.std.proofs.Common.{ℕ, Some, ap, sym, subst, ◌∙◌}
use Rattle.page_model.specs.World.{Tree}
use Rattle.page_model.specs.PageBoxes.{scroll_range, scroll_offset}
use Rattle.page_model.specs.Documents.{document_of_container}
use Rattle.page_boxes.specs.Pages.{seen_size}
use Rattle.container_model.specs.Seen.{seen_container}
use Rattle.scrolling.specs.Seen.{point_of}
use Rattle.page_geometry.specs.Documents.{ShownIn}
use Rattle.page_state.specs.Boxes.{ComputesIn}
use Rattle.page_state.specs.Views.{PageView}
use Rattle.page_state.proofs.Laid.{view_refreshed, computed_in}
use Rattle.page_state.proofs.page.Page.reach.Goals as goal

pub returns-clause-offset : goal.returns-clause-offset
returns-clause-offset g c =
    c.offset_of.ensures.value
    ∙ ap (λ (it : ShownIn). point_of (scroll_offset it.shown.tree it.shown.screen it.shown.scrolls (seen_container c.args.target))) c.shown_in-shown.ensures
    ∙ ap (λ (v : PageView). point_of (scroll_offset v.world.tree v.world.viewports.screen v.world.scrolls (seen_container c.args.target)))
    (view_refreshed c.self.inside c.refresh_in.new.self c.refresh_in.ensures.same c.args.self.now c.self.view_is)

pub returns-clause-range : goal.returns-clause-range
returns-clause-range g c =
    ap seen_size c.range_of.ensures.value
    ∙ ap (λ (it : ShownIn). scroll_range it.shown.tree it.shown.screen (seen_container c.args.target)) c.shown_in-shown.ensures
    ∙ ap (λ (v : PageView). scroll_range v.world.tree v.world.viewports.screen (seen_container c.args.target))
    (view_refreshed c.self.inside c.refresh_in.new.self c.refresh_in.ensures.same c.args.self.now c.self.view_is)

pub returns-clause-boxes : goal.returns-clause-boxes
returns-clause-boxes g c =
    let own =
    c.document_of_container-document.ensures
    ∙ ap (λ (tree : Tree). document_of_container tree (seen_container c.args.target)) (c.page.ensures.tree ∙ ap (λ (v : PageView). v.world.tree) c.self.view_is) in
    subst (λ (document : ℕ). ComputesIn c.args.self.now.world (Some document) c.args.self.now.kept c.refresh_in.new.self.kept c.args.steps.now c.refresh_in.new.steps)
    own
    (computed_in c.self.inside c.refresh_in.new.self c.refresh_in.ensures.same c.args.self.now c.self.view_is c.refresh_in.ensures.fills c.refresh_in.ensures.unboxed _ _ c.refresh_in.ensures.ticks
    (λ tree. Some c.document_of_container-document.result.0) c.refresh_in.ensures.left)

pub offset_of-requires : goal.offset_of-requires
offset_of-requires g c =
    let own =
    c.document_of_container-document.ensures
    ∙ ap (λ (tree : Tree). document_of_container tree (seen_container c.args.target)) (c.page.ensures.tree ∙ ap (λ (v : PageView). v.world.tree) c.self.view_is) in
    ap (λ (it : ShownIn). document_of_container it.shown.tree (seen_container c.args.target)) c.shown_in-shown.ensures
    ∙ ap (λ (v : PageView). document_of_container v.world.tree (seen_container c.args.target))
    (view_refreshed c.self.inside c.refresh_in.new.self c.refresh_in.ensures.same c.args.self.now c.self.view_is)
    ∙ sym own
    ∙ ap (λ (it : ShownIn). it.document) (sym c.shown_in-shown.ensures)

pub range_of-requires : goal.range_of-requires
range_of-requires g c =
    let own =
    c.document_of_container-document.ensures
    ∙ ap (λ (tree : Tree). document_of_container tree (seen_container c.args.target)) (c.page.ensures.tree ∙ ap (λ (v : PageView). v.world.tree) c.self.view_is) in
    ap (λ (it : ShownIn). document_of_container it.shown.tree (seen_container c.args.target)) c.shown_in-shown.ensures
    ∙ ap (λ (v : PageView). document_of_container v.world.tree (seen_container c.args.target))
    (view_refreshed c.self.inside c.refresh_in.new.self c.refresh_in.ensures.same c.args.self.now c.self.view_is)
    ∙ sym own
    ∙ ap (λ (it : ShownIn). it.document) (sym c.shown_in-shown.ensures)

pub shown_in-shown-requires-clause-fresh : goal.shown_in-shown-requires-clause-fresh
shown_in-shown-requires-clause-fresh g c = c.refresh_in.ensures.fresh

pub shown_in-shown-requires-clause-above : goal.shown_in-shown-requires-clause-above
shown_in-shown-requires-clause-above g c = c.refresh_in.ensures.above
