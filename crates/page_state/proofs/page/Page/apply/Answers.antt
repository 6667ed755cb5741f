-- A page stays ready for a tick of a script behind a command of that script.
use Rattle.std.proofs.Common.{rules}
use Rattle.script_model.specs.Scripts.{handlers_in}
use Rattle.script_syntax.specs.Seen.{action_of}
use Rattle.page_state.proofs.Ready.{ready_applied}
use Rattle.page_state.proofs.page.Page.apply.Goals as goal

pub returns-clause-applied : goal.returns-clause-applied
returns-clause-applied g c = search rules

pub returns-clause-ready : goal.returns-clause-ready
returns-clause-ready g c =
    ready_applied (handlers_in c.args.script.now.items) c.args.self.now.world _ c.args.subject (action_of c.args.action.now) c.requires.subject _ (returns-clause-applied g c)
