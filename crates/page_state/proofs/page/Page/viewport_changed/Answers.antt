-- The size of the viewport is noted.
use Rattle.std.proofs.Common.{◌≡◌, ◌<◌, ◌≤◌, Option, Some, None, List, length, option_map, rules, sym, ap, ◌∙◌, subst, arith}
use Rattle.std.specs.List.{AllByRecursion}
use Rattle.std.specs.Option.{ForSome}
use Rattle.px_units.specs.declared.Size.{Size}
use Rattle.page_model.specs.World.{Extent, Tree, InDocument}
use Rattle.page_model.specs.PageBoxes.{viewport_of}
use Rattle.page_model.specs.Viewports.{noted_size, with_noted, differs_from}
use Rattle.page_boxes.specs.Around.{rests_on}
use Rattle.page_boxes.specs.Pages.{seen_size, seen_screen}
use Rattle.page_tree.specs.Items.{IsNatural}
use Rattle.scrolling.proofs.Puts.{map-put}
use Rattle.page_state.specs.Views.{PageView}
use Rattle.page_state.specs.Worlds.{world_of}
use Rattle.page_state.proofs.Laid.{view_refreshed, computed_in}
use Rattle.page_state.proofs.Noted.{noted_seen, natural_at, natural_put, natural_some, sizes_differ}
use Rattle.page_laws.proofs.Changes.{noted-next}
use Rattle.page_laws.proofs.Ready.{ready-next}
use Rattle.page_state.proofs.Ready.{ready_at}
use Rattle.page_state.proofs.page.Page.viewport_changed.Goals.{in-None, in-Some}
use Rattle.page_state.proofs.page.Page.viewport_changed.Goals as goal

pub set-requires : goal.set-requires
set-requires g c =
    let there : c.args.document.0 < length c.self.inside.laid.elements.tree.documents = subst (λ (v : PageView). c.args.document.0 < length v.world.tree.documents) (sym c.self.view_is) c.requires in
    let few : length c.self.inside.laid.elements.tree.documents ≤ 64 =
    subst (λ (it : Tree). length it.documents ≤ 64) (c.page.ensures.tree ∙ (λ i. (c.viewport_now-size.ensures.same i).tree)) c.document_count-count.ensures.bound in
    omega (arith, there, few)

pub invariant_of-self : goal.invariant_of-self
invariant_of-self g c =
    let size = c.viewport_now-size.result in
    let noted : AllByRecursion (λ (it : Option Size). ForSome it IsNatural) c.set.new.self =
    subst (λ (it : List (Option Size)). AllByRecursion (λ (each : Option Size). ForSome each IsNatural) it) (sym c.set.ensures)
    (natural_put c.args.document.0 (Some size) c.self.inside.noted (natural_some size c.viewport_now-size.ensures.natural) c.self.invariant.noted) in
    search rules

pub returns-clause-value : goal.returns-clause-value
returns-clause-value g c =
    let p = record (c.self.inside) { laid = c.viewport_now-size.new.laid } in
    let view_is = view_refreshed c.self.inside c.viewport_now-size.new.laid c.viewport_now-size.ensures.same c.args.self.now c.self.view_is in
    let size = c.viewport_now-size.result in
    let value : c.match-before.result ≡ differs_from (seen_size size) (option_map seen_size c.get-before.result) =
    elim c.match-before.branch [
      | in-None w ↦ w.result-is ∙ ap (λ (last : Option Size). differs_from (seen_size size) (option_map seen_size last)) (sym w.in-None.is)
      | in-Some w ↦ w.result-is ∙ (w.ne.ensures
          ∙ (sizes_differ w.in-Some.noted size (natural_at p.noted c.args.document.0 w.in-Some.noted c.self.invariant.noted (sym c.get-before.ensures ∙ w.in-Some.is)) c.viewport_now-size.ensures.natural
          ∙ ap (λ (last : Option Size). differs_from (seen_size size) (option_map seen_size last)) (sym w.in-Some.is)))
    ] in
    value
    ∙ ap (λ (last : Option Extent). differs_from (seen_size size) last) (ap (option_map seen_size) c.get-before.ensures ∙ noted_seen p.noted c.args.document.0)
    ∙ ap (λ (now : Extent). differs_from now (noted_size c.args.document.0 ((world_of p).viewports))) c.viewport_now-size.ensures.value
    ∙ ap (λ (v : PageView). differs_from (viewport_of v.world.tree v.world.viewports.screen c.args.document.0) (noted_size c.args.document.0 v.world.viewports)) view_is

pub returns-clause-noted : goal.returns-clause-noted
returns-clause-noted g c =
    let p = record (c.self.inside) { laid = c.viewport_now-size.new.laid } in
    let view_is = view_refreshed c.self.inside c.viewport_now-size.new.laid c.viewport_now-size.ensures.same c.args.self.now c.self.view_is in
    (λ i. world_of (record p { noted = c.set.ensures i }))
    ∙ ap (λ (noted : List (Option Extent)). record (world_of p) { viewports = record { screen = seen_screen p.screen; noted = noted } })
    (map-put (option_map seen_size) None (Some c.viewport_now-size.result) c.args.document.0 p.noted)
    ∙ ap (λ (now : Extent). record (world_of p) { viewports = with_noted c.args.document.0 now ((world_of p).viewports) }) c.viewport_now-size.ensures.value
    ∙ ap (λ (v : PageView). record (v.world) { viewports = with_noted c.args.document.0 (viewport_of (v.world.tree) (v.world.viewports.screen) c.args.document.0) (v.world.viewports) }) view_is

pub returns-clause-boxes : goal.returns-clause-boxes
returns-clause-boxes g c =
    computed_in c.self.inside c.viewport_now-size.new.laid c.viewport_now-size.ensures.same c.args.self.now c.self.view_is c.viewport_now-size.ensures.fills c.viewport_now-size.ensures.unboxed
    _ _ c.viewport_now-size.ensures.ticks (λ tree. rests_on tree (InDocument c.args.document.0)) c.viewport_now-size.ensures.others

pub returns-clause-ready : goal.returns-clause-ready
returns-clause-ready g c = λ handlers ready.
    ready_at handlers (returns-clause-noted g c) (ready-next handlers c.args.self.now.world ready _ (noted-next c.args.self.now.world c.args.document.0 _ c.requires))
