use Rattle.std.proofs.Common.{rules}
use Rattle.page_state.proofs.Laid.{computed}
use Rattle.page_laws.proofs.Changes.{same-next}
use Rattle.page_state.proofs.Ready.{ready_by}
use Rattle.page_state.proofs.page.Page.refresh_boxes.Goals as goal

pub returns-clause-boxes : goal.returns-clause-boxes
returns-clause-boxes g c =
    computed c.self.inside c.refresh.new.self c.refresh.ensures.same c.args.self.now c.self.view_is c.refresh.ensures.fills c.refresh.ensures.unboxed _ _ c.refresh.ensures.ticks

pub returns-clause-same : goal.returns-clause-same
returns-clause-same g c = search rules

pub returns-clause-ready : goal.returns-clause-ready
returns-clause-ready g c = λ handlers. ready_by handlers c.args.self.now.world (returns-clause-same g c) (same-next c.args.self.now.world)
