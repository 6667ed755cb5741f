-- What commands and the changes of a tick keep in range.
use Rattle.page_laws.proofs.Ready.{begun-in, time-in}
use Rattle.page_laws.proofs.RunsInRange.{opening-in, command-in, call-in, tick-in, item-in, items-in}
use Rattle.page_laws.proofs.runs.runs_stay_in_range.Goals as goal

pub returns-clause-opening : goal.returns-clause-opening
returns-clause-opening c = opening-in

pub returns-clause-counts : goal.returns-clause-counts
returns-clause-counts c = begun-in

pub returns-clause-times : goal.returns-clause-times
returns-clause-times c = time-in

pub returns-clause-commands : goal.returns-clause-commands
returns-clause-commands c = command-in

pub returns-clause-callbacks : goal.returns-clause-callbacks
returns-clause-callbacks c = call-in

pub returns-clause-ticks : goal.returns-clause-ticks
returns-clause-ticks c = tick-in

pub returns-clause-items : goal.returns-clause-items
returns-clause-items c = item-in

pub returns-clause-scripts : goal.returns-clause-scripts
returns-clause-scripts c = items-in
