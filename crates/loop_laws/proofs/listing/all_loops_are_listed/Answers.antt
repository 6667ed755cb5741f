-- Part by part of each tick.
use Rattle.loop_laws.proofs.ListedLoops.{tick-tells, rounds-tell, item-tells, run-tells}
use Rattle.loop_laws.proofs.listing.all_loops_are_listed.Goals as goal

pub returns-clause-ticks : goal.returns-clause-ticks
returns-clause-ticks c = tick-tells

pub returns-clause-rounds : goal.returns-clause-rounds
returns-clause-rounds c = rounds-tell

pub returns-clause-items : goal.returns-clause-items
returns-clause-items c = item-tells

pub returns-clause-runs : goal.returns-clause-runs
returns-clause-runs c = run-tells
