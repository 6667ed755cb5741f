-- A page stays ready for a tick as its clock is set.
use Rattle.std.proofs.Common.{rules}
use Rattle.page_laws.proofs.Ready.{ready-timed}
use Rattle.page_state.proofs.page.Page.set_time.Goals as goal

pub returns-clause-set : goal.returns-clause-set
returns-clause-set c = search rules

pub returns-clause-ready : goal.returns-clause-ready
returns-clause-ready c = λ handlers ready. ready-timed handlers c.args.self.now.world ready c.args.time _ (returns-clause-set c)
