-- Each command is counted before anything else.
use Rattle.loop_laws.proofs.Walk.{any-command, any-block, any-call}
use Rattle.loop_laws.proofs.Standing.{Stands, still-along, broadcast-outside, round-outside}
use Rattle.loop_laws.proofs.counts.nothing_changes_while_no_command_begins.Goals as goal

pub returns-clause-commands : goal.returns-clause-commands
returns-clause-commands c = λ script. any-command script Stands (still-along script)

pub returns-clause-blocks : goal.returns-clause-blocks
returns-clause-blocks c = λ script. any-block script Stands (still-along script)

pub returns-clause-callbacks : goal.returns-clause-callbacks
returns-clause-callbacks c = λ script. any-call script Stands (still-along script)

pub returns-clause-broadcasts : goal.returns-clause-broadcasts
returns-clause-broadcasts c = broadcast-outside

pub returns-clause-rounds : goal.returns-clause-rounds
returns-clause-rounds c = round-outside
