-- Each begins in a page within the limits.
use Rattle.loop_laws.proofs.ExactLoops.{item-exact, run-exact}
use Rattle.loop_laws.proofs.listing.listed_loops_are_exact.Goals as goal

pub returns-clause-items : goal.returns-clause-items
returns-clause-items c = item-exact

pub returns-clause-runs : goal.returns-clause-runs
returns-clause-runs c = run-exact
