-- A page stays ready for a tick as a notify task begins that was taken off.
use Rattle.std.proofs.Common.{rules}
use Rattle.page_model.specs.World.{Notify}
use Rattle.page_laws.specs.Ready.{with_first}
use Rattle.page_state.proofs.Ready.{ready_by, notify_begun}
use Rattle.page_state.proofs.page.Page.notify_list.Goals as goal

pub returns-clause-cleared : goal.returns-clause-cleared
returns-clause-cleared c = search rules

pub returns-clause-ready : goal.returns-clause-ready
returns-clause-ready c = λ handlers.
    ready_by handlers (with_first (Notify c.args.document.0) c.args.self.now.world) (returns-clause-cleared c) (notify_begun c.args.self.now.world c.args.document.0)
