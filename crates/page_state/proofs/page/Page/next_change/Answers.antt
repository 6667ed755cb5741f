-- The query list that was found has its new state.
use Rattle.std.proofs.Common.{◌≡◌, ◌<◌, true, List, Some, length, map, ap, subst, ◌∙◌}
use Rattle.page_model.specs.World.{InDocument}
use Rattle.page_model.specs.PageBoxes.{viewport_of}
use Rattle.page_model.specs.Lookups.{query_list_at}
use Rattle.page_boxes.specs.Around.{rests_on}
use Rattle.page_boxes.specs.Pages.{seen_size}
use Rattle.page_state.specs.Queries.{seen_query_list, is_changed, changed_from}
use Rattle.page_state.specs.Views.{PageView}
use Rattle.page_state.specs.declared.queries.QueryList.{QueryList}
use Rattle.page_state.proofs.Laid.{view_refreshed, computed_in}
use Rattle.page_state.proofs.QueryLists.{page_changed, page_evaluated}
use Rattle.page_state.proofs.Ready.{ready_by, list_evaluated}
use Rattle.page_state.proofs.page.Page.next_change.Goals as goal

pub returns-clause-matches : goal.returns-clause-matches
returns-clause-matches g c =
    let p = record (c.self.inside) { laid = c.viewport_now-size.new.laid } in
    let view_is = view_refreshed c.self.inside c.viewport_now-size.new.laid c.viewport_now-size.ensures.same c.args.self.now c.self.view_is in
    page_changed p (record (c.args.self.now) { kept = c.viewport_now-size.new.laid.kept }) view_is c.in_ok-query.query c.index_mut-list.result.now
    (subst (λ (it : List QueryList). c.in_ok-query.query < length it) c.as_slice.ensures.value c.in_ok-query.ensures.there)
    c.index_mut-list.ensures.value c.args.document.0 (seen_size c.viewport_now-size.result)
    (subst (λ (it : List QueryList). is_changed c.args.document.0 (seen_size c.viewport_now-size.result) (query_list_at (map seen_query_list it) c.in_ok-query.query) ≡ true) c.as_slice.ensures.value c.in_ok-query.ensures.changed)
    (c.viewport_now-size.ensures.value ∙ ap (λ (v : PageView). viewport_of v.world.tree v.world.viewports.screen c.args.document.0) view_is)

pub returns-clause-evaluated : goal.returns-clause-evaluated
returns-clause-evaluated g c =
    let p = record (c.self.inside) { laid = c.viewport_now-size.new.laid } in
    let view_is = view_refreshed c.self.inside c.viewport_now-size.new.laid c.viewport_now-size.ensures.same c.args.self.now c.self.view_is in
    page_evaluated p (record (c.args.self.now) { kept = c.viewport_now-size.new.laid.kept }) view_is c.in_ok-query.query c.index_mut-list.result.now
    (subst (λ (it : List QueryList). c.in_ok-query.query < length it) c.as_slice.ensures.value c.in_ok-query.ensures.there)
    c.index_mut-list.ensures.value c.args.document.0 (seen_size c.viewport_now-size.result)
    (subst (λ (it : List QueryList). is_changed c.args.document.0 (seen_size c.viewport_now-size.result) (query_list_at (map seen_query_list it) c.in_ok-query.query) ≡ true) c.as_slice.ensures.value c.in_ok-query.ensures.changed)
    (c.viewport_now-size.ensures.value ∙ ap (λ (v : PageView). viewport_of v.world.tree v.world.viewports.screen c.args.document.0) view_is) c.args.place
    (subst (λ (it : List QueryList). Some c.in_ok-query.query ≡ changed_from c.args.document.0 c.args.place (seen_size c.viewport_now-size.result) (map seen_query_list it)) c.as_slice.ensures.value c.in_ok-query.ensures.value)

pub returns-clause-boxes : goal.returns-clause-boxes
returns-clause-boxes g c =
    computed_in c.self.inside c.viewport_now-size.new.laid c.viewport_now-size.ensures.same c.args.self.now c.self.view_is c.viewport_now-size.ensures.fills c.viewport_now-size.ensures.unboxed
    _ _ c.viewport_now-size.ensures.ticks (λ tree. rests_on tree (InDocument c.args.document.0)) c.viewport_now-size.ensures.others

pub returns-clause-ready : goal.returns-clause-ready
returns-clause-ready g c = λ handlers. ready_by handlers c.args.self.now.world (returns-clause-evaluated g c) (list_evaluated c.args.self.now.world c.args.document.0 _)
