-- A page stays ready for a tick once an active list was emptied.
use Rattle.std.proofs.Common.{rules}
use Rattle.page_laws.proofs.Changes.{inactive-next}
use Rattle.page_state.proofs.Ready.{ready_by}
use Rattle.page_state.proofs.page.Page.end_delivery.Goals as goal

pub returns-clause-emptied : goal.returns-clause-emptied
returns-clause-emptied c = search rules

pub returns-clause-ready : goal.returns-clause-ready
returns-clause-ready c = λ handlers. ready_by handlers c.args.self.now.world (returns-clause-emptied c) (inactive-next c.args.self.now.world c.args.observer.0)
