-- A page stays ready for a tick once its first task was taken off, and with that task before all others too.
use Rattle.std.proofs.Common.{refl, rules}
use Rattle.page_state.proofs.Ready.{ready_by, task_as_before, task_popped}
use Rattle.page_state.proofs.page.Page.pop_task.Goals as goal

pub returns-clause-value : goal.returns-clause-value
returns-clause-value c = search rules

pub returns-clause-left : goal.returns-clause-left
returns-clause-left c = search rules

pub returns-clause-ready : goal.returns-clause-ready
returns-clause-ready c = λ handlers. ready_by handlers c.args.self.now.world (returns-clause-left c) (task_popped c.args.self.now.world)

pub returns-clause-task : goal.returns-clause-task
returns-clause-task c = λ handlers. task_as_before handlers c.args.self.now.world _ (returns-clause-value c) (returns-clause-left c) refl
