-- A query list is asked in the viewport of its document.
use Rattle.std.proofs.Common.{◌≡◌, ◌<◌, ℕ, length, sym, ap, subst, ◌∙◌}
use Rattle.std.proofs.lemmas.List.{length-map}
use Rattle.page_model.specs.World.{QueryList, InDocument}
use Rattle.page_model.specs.Lookups.{query_list_at}
use Rattle.page_model.specs.PageBoxes.{viewport_of}
use Rattle.page_boxes.specs.Around.{rests_on}
use Rattle.page_boxes.specs.Pages.{seen_size}
use Rattle.page_state.specs.Boxes.{ComputesIn}
use Rattle.page_state.specs.Queries.{seen_query_list}
use Rattle.page_state.specs.Views.{PageView}
use Rattle.page_state.proofs.Laid.{view_refreshed, computed_in}
use Rattle.page_state.proofs.QueryLists.{list_here, matches_here}
use Rattle.page_state.proofs.page.Page.matches_now.Goals as goal

pub returns-clause-value : goal.returns-clause-value
returns-clause-value g c =
    let list = c.index-list.result.now in
    let below : c.args.query < length c.self.inside.queries.items =
    subst (λ (count : ℕ). c.args.query < count) (length-map c.self.inside.queries.items seen_query_list)
    (subst (λ (v : PageView). c.args.query < length v.world.queries) (sym c.self.view_is) c.requires) in
    let at : query_list_at c.args.self.now.world.queries c.args.query ≡ seen_query_list list =
    subst (λ (v : PageView). query_list_at v.world.queries c.args.query ≡ seen_query_list list) c.self.view_is (list_here c.self.inside c.args.query list below c.index-list.ensures) in
    matches_here c.args.self.now.world c.args.query (seen_query_list list) (seen_size c.viewport_now-viewport.result) at c.matches.result c.matches.ensures (c.viewport_now-viewport.ensures.value ∙ ap (λ (v : PageView). viewport_of v.world.tree v.world.viewports.screen list.document.0)
    (view_refreshed c.self.inside c.viewport_now-viewport.new.laid c.viewport_now-viewport.ensures.same c.args.self.now c.self.view_is))

pub returns-clause-boxes : goal.returns-clause-boxes
returns-clause-boxes g c =
    let list = c.index-list.result.now in
    let below : c.args.query < length c.self.inside.queries.items =
    subst (λ (count : ℕ). c.args.query < count) (length-map c.self.inside.queries.items seen_query_list)
    (subst (λ (v : PageView). c.args.query < length v.world.queries) (sym c.self.view_is) c.requires) in
    let at : query_list_at c.args.self.now.world.queries c.args.query ≡ seen_query_list list =
    subst (λ (v : PageView). query_list_at v.world.queries c.args.query ≡ seen_query_list list) c.self.view_is (list_here c.self.inside c.args.query list below c.index-list.ensures) in
    subst (λ (it : QueryList). ComputesIn c.args.self.now.world (rests_on (c.args.self.now.world.tree) (InDocument it.document)) c.args.self.now.kept c.viewport_now-viewport.new.laid.kept c.args.steps.now c.viewport_now-viewport.new.steps)
    (sym at)
    (computed_in c.self.inside c.viewport_now-viewport.new.laid c.viewport_now-viewport.ensures.same c.args.self.now c.self.view_is c.viewport_now-viewport.ensures.fills c.viewport_now-viewport.ensures.unboxed
    _ _ c.viewport_now-viewport.ensures.ticks (λ tree. rests_on tree (InDocument list.document.0)) c.viewport_now-viewport.ensures.others)
