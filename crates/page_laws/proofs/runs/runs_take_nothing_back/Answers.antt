-- What every command keeps and what begins one is kept by all that runs commands.
use Rattle.page_laws.proofs.Later.{command-later, call-later, tick-later, items-later}
use Rattle.page_laws.proofs.runs.runs_take_nothing_back.Goals as goal

pub returns-clause-commands : goal.returns-clause-commands
returns-clause-commands c = command-later

pub returns-clause-callbacks : goal.returns-clause-callbacks
returns-clause-callbacks c = call-later

pub returns-clause-ticks : goal.returns-clause-ticks
returns-clause-ticks c = tick-later

pub returns-clause-scripts : goal.returns-clause-scripts
returns-clause-scripts c = items-later
