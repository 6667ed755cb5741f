use Rattle.page_laws.proofs.Ready.{ready-called, ready-command}
use Rattle.live_page.proofs.laws.commands_and_callbacks_leave_worlds_ready.Goals as goal

pub returns-clause-commands : goal.returns-clause-commands
returns-clause-commands c = ready-command

pub returns-clause-callbacks : goal.returns-clause-callbacks
returns-clause-callbacks c = ready-called
