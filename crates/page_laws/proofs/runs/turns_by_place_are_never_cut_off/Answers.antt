-- A place past the end of a list ends a loop.
use Rattle.page_laws.proofs.Turns.{queries-same, observers-same}
use Rattle.page_laws.proofs.runs.turns_by_place_are_never_cut_off.Goals as goal

pub returns-clause-query_lists : goal.returns-clause-query_lists
returns-clause-query_lists c = queries-same

pub returns-clause-observers : goal.returns-clause-observers
returns-clause-observers c = observers-same
