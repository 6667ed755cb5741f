-- A page stays ready for a tick as a delivery is handed out.
use Rattle.std.proofs.Common.{rules}
use Rattle.page_laws.proofs.Changes.{same-next}
use Rattle.page_state.proofs.Ready.{by_result, ready_by, turn_reported}
use Rattle.page_state.proofs.page.Page.next_delivery.Goals as goal

pub returns-clause-reported : goal.returns-clause-reported
returns-clause-reported g c = search rules

pub returns-clause-same : goal.returns-clause-same
returns-clause-same g c = search rules

pub returns-clause-ready : goal.returns-clause-ready
returns-clause-ready g c = λ handlers ready.
    by_result _ _ c.next_delivery.result (returns-clause-reported g c) (returns-clause-same g c)
    (λ is. ready_by handlers c.args.self.now.world is (turn_reported c.args.self.now.world _) ready)
    (λ is. ready_by handlers c.args.self.now.world is (same-next c.args.self.now.world) ready)
