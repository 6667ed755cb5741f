-- What each command and each change of a tick keeps.
use Rattle.page_laws.proofs.Limits.{does-within}
use Rattle.page_laws.proofs.Ready.{begun-within, time-within}
use Rattle.page_laws.proofs.Turns.{opening-within, command-within, call-within, gather-within, broadcast-within, round-within, first-within, tick-within, item-within, items-within, tasks-few}
use Rattle.page_laws.proofs.runs.limits_are_kept.Goals as goal

pub returns-clause-opening : goal.returns-clause-opening
returns-clause-opening c = opening-within

pub returns-clause-effects : goal.returns-clause-effects
returns-clause-effects c = λ handlers world within present action. does-within world within handlers present action

pub returns-clause-counts : goal.returns-clause-counts
returns-clause-counts c = begun-within

pub returns-clause-times : goal.returns-clause-times
returns-clause-times c = time-within

pub returns-clause-commands : goal.returns-clause-commands
returns-clause-commands c = command-within

pub returns-clause-callbacks : goal.returns-clause-callbacks
returns-clause-callbacks c = call-within

pub returns-clause-gatherings : goal.returns-clause-gatherings
returns-clause-gatherings c = gather-within

pub returns-clause-broadcasts : goal.returns-clause-broadcasts
returns-clause-broadcasts c = broadcast-within

pub returns-clause-rounds : goal.returns-clause-rounds
returns-clause-rounds c = round-within

pub returns-clause-tasks : goal.returns-clause-tasks
returns-clause-tasks c = first-within

pub returns-clause-ticks : goal.returns-clause-ticks
returns-clause-ticks c = tick-within

pub returns-clause-items : goal.returns-clause-items
returns-clause-items c = item-within

pub returns-clause-scripts : goal.returns-clause-scripts
returns-clause-scripts c = items-within

pub returns-clause-waiting : goal.returns-clause-waiting
returns-clause-waiting c = tasks-few
