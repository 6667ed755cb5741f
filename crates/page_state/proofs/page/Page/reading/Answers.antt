-- The line of what is read.
use Rattle.std.proofs.Common.{ℕ, List, Some, ap, sym, subst, ◌∙◌}
use Rattle.script_model.specs.TraceLines.{ReadLine}
use Rattle.page_model.specs.World.{Tree}
use Rattle.page_model.specs.Documents.{document_of_container}
use Rattle.page_model.specs.Readings.{reading_of}
use Rattle.container_model.specs.Seen.{seen_container}
use Rattle.page_geometry.specs.Documents.{ShownIn}
use Rattle.page_state.specs.Boxes.{ComputesIn}
use Rattle.page_state.specs.Views.{PageView}
use Rattle.page_state.proofs.Laid.{view_refreshed, computed_in}
use Rattle.page_state.proofs.page.Page.reading.Goals as goal

pub returns-clause-line : goal.returns-clause-line
returns-clause-line g c =
    ap (λ (it : List ℕ). ReadLine it c.read-shown.result.rect c.read-shown.result.scroll) c.container_name-target.ensures
    ∙ sym (c.read-shown.ensures.value c.args.self.now.world.names)
    ∙ ap (λ (it : ShownIn). reading_of c.args.self.now.world.names it.shown.tree it.shown.screen it.shown.scrolls (seen_container c.args.container)) c.shown_in.ensures
    ∙ ap (λ (page : PageView). reading_of c.args.self.now.world.names page.world.tree page.world.viewports.screen page.world.scrolls (seen_container c.args.container))
    (view_refreshed c.self.inside c.refresh_in.new.self c.refresh_in.ensures.same c.args.self.now c.self.view_is)

pub returns-clause-boxes : goal.returns-clause-boxes
returns-clause-boxes g c =
    let own =
    c.document_of_container-document.ensures
    ∙ ap (λ (tree : Tree). document_of_container tree (seen_container c.args.container)) (c.page.ensures.tree ∙ ap (λ (page : PageView). page.world.tree) c.self.view_is) in
    subst (λ (document : ℕ). ComputesIn c.args.self.now.world (Some document) c.args.self.now.kept c.refresh_in.new.self.kept c.args.steps.now c.refresh_in.new.steps)
    own
    (computed_in c.self.inside c.refresh_in.new.self c.refresh_in.ensures.same c.args.self.now c.self.view_is c.refresh_in.ensures.fills c.refresh_in.ensures.unboxed _ _ c.refresh_in.ensures.ticks
    (λ tree. Some c.document_of_container-document.result.0) c.refresh_in.ensures.left)

pub read-shown-requires : goal.read-shown-requires
read-shown-requires g c =
    let own =
    c.document_of_container-document.ensures
    ∙ ap (λ (tree : Tree). document_of_container tree (seen_container c.args.container)) (c.page.ensures.tree ∙ ap (λ (page : PageView). page.world.tree) c.self.view_is) in
    ap (λ (it : ShownIn). document_of_container it.shown.tree (seen_container c.args.container)) c.shown_in.ensures
    ∙ ap (λ (page : PageView). document_of_container page.world.tree (seen_container c.args.container))
    (view_refreshed c.self.inside c.refresh_in.new.self c.refresh_in.ensures.same c.args.self.now c.self.view_is)
    ∙ sym own
    ∙ ap (λ (it : ShownIn). it.document) (sym c.shown_in.ensures)

pub shown_in-requires-clause-fresh : goal.shown_in-requires-clause-fresh
shown_in-requires-clause-fresh g c = c.refresh_in.ensures.fresh

pub shown_in-requires-clause-above : goal.shown_in-requires-clause-above
shown_in-requires-clause-above g c = c.refresh_in.ensures.above
