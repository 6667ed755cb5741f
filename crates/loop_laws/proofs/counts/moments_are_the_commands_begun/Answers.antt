-- A moment is listed where a command is counted.
use Rattle.loop_laws.proofs.Walk.{any-command, any-block, any-call}
use Rattle.loop_laws.proofs.Standing.{Counts, counts-along, broadcast-counts}
use Rattle.loop_laws.proofs.counts.moments_are_the_commands_begun.Goals as goal

pub returns-clause-commands : goal.returns-clause-commands
returns-clause-commands c = λ script. any-command script Counts (counts-along script)

pub returns-clause-blocks : goal.returns-clause-blocks
returns-clause-blocks c = λ script. any-block script Counts (counts-along script)

pub returns-clause-callbacks : goal.returns-clause-callbacks
returns-clause-callbacks c = λ script. any-call script Counts (counts-along script)

pub returns-clause-broadcasts : goal.returns-clause-broadcasts
returns-clause-broadcasts c = broadcast-counts
