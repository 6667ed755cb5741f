-- A page stays ready for a tick as a command is counted.
use Rattle.std.proofs.Common.{rules}
use Rattle.page_model.specs.Commands.{begun_in}
use Rattle.page_laws.proofs.Ready.{ready-begun}
use Rattle.page_state.proofs.page.Page.begin_command.Goals as goal

pub returns-clause-counted : goal.returns-clause-counted
unfolding begun_in
returns-clause-counted c = search rules

pub returns-clause-ready : goal.returns-clause-ready
returns-clause-ready c = λ handlers ready. ready-begun handlers c.args.self.now.world ready _ (returns-clause-counted c)
