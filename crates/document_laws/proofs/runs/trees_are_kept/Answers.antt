-- What commands and the changes of a tick leave within its levels.
use Rattle.document_laws.proofs.Steps.{does_levels}
use Rattle.document_laws.proofs.WholeRuns.{opening_levels, command_levels, call_levels, tick_levels, item_levels, items_levels, outcome_levels}
use Rattle.document_laws.proofs.runs.trees_are_kept.Goals as goal

pub returns-clause-opening : goal.returns-clause-opening
returns-clause-opening c = opening_levels

pub returns-clause-steps : goal.returns-clause-steps
returns-clause-steps c = does_levels

pub returns-clause-commands : goal.returns-clause-commands
returns-clause-commands c = command_levels

pub returns-clause-callbacks : goal.returns-clause-callbacks
returns-clause-callbacks c = call_levels

pub returns-clause-ticks : goal.returns-clause-ticks
returns-clause-ticks c = tick_levels

pub returns-clause-items : goal.returns-clause-items
returns-clause-items c = λ script item world within levels. item_levels script world within levels item

pub returns-clause-scripts : goal.returns-clause-scripts
returns-clause-scripts c = items_levels

pub returns-clause-outcomes : goal.returns-clause-outcomes
returns-clause-outcomes c = outcome_levels
