-- Gathering is that of the page's resize observers by its sizes as they are now.
use Rattle.std.proofs.Common.{ap, ◌∙◌}
use Rattle.page_model.specs.Loop.{gather}
use Rattle.page_model.specs.World.{World}
use Rattle.page_model.specs.Shown.{Shown}
use Rattle.page_model.specs.Gathering.{gathering, sight_in}
use Rattle.resize_observer.specs.Observers.{HeldObservers}
use Rattle.page_state.specs.Views.{PageView}
use Rattle.page_state.specs.Worlds.{world_of, view_of}
use Rattle.page_state.proofs.Doing.{gathers}
use Rattle.page_state.proofs.Laid.{view_refreshed, computed}
use Rattle.page_laws.proofs.Changes.{gather-next}
use Rattle.page_state.proofs.Ready.{ready_by}
use Rattle.page_state.proofs.page.Page.gather.Goals as goal

pub returns-clause-gathered : goal.returns-clause-gathered
returns-clause-gathered g c =
    let p = record (c.self.inside) { laid = c.refresh.new.self } in
    ap (λ (it : HeldObservers). record (view_of p) { world = record (world_of p) { resize_observers = it.part } }) (c.gather.ensures.gathered
    ∙ ap (λ (s : Shown). record (c.self.inside.observers) { part = gathering (sight_in s.tree s.screen) c.args.document.0 c.args.depth (c.self.inside.observers.part) }) c.sizes_now-sizes.ensures)
    ∙ ap (λ (world : World). record (view_of p) { world = world }) (gathers c.args.document.0 c.args.depth (world_of p))
    ∙ ap (λ (v : PageView). record v { world = gather c.args.document.0 c.args.depth (v.world) })
    (view_refreshed c.self.inside c.refresh.new.self c.refresh.ensures.same c.args.self.now c.self.view_is)

pub returns-clause-boxes : goal.returns-clause-boxes
returns-clause-boxes g c =
    computed c.self.inside c.refresh.new.self c.refresh.ensures.same c.args.self.now c.self.view_is c.refresh.ensures.fills c.refresh.ensures.unboxed _ _ c.refresh.ensures.ticks

pub returns-clause-ready : goal.returns-clause-ready
returns-clause-ready g c = λ handlers.
    ready_by handlers c.args.self.now.world (returns-clause-gathered g c) (gather-next c.args.document.0 c.args.depth c.args.self.now.world)
