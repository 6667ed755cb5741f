-- Each command is gone through.
use Rattle.page_laws.proofs.Commands.{does-any}
use Rattle.page_laws.proofs.InRange.{does-known}
use Rattle.page_laws.proofs.pages.commands_make_one_change.Goals as goal

pub returns-clause-each : goal.returns-clause-each
returns-clause-each c = does-any

pub returns-clause-range : goal.returns-clause-range
returns-clause-range c = does-known
