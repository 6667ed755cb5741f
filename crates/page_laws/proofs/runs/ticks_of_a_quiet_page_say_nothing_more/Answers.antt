-- No part of a tick has anything to say.
use Rattle.page_laws.proofs.Quiet.{tick-line, tick-quiet}
use Rattle.page_laws.proofs.runs.ticks_of_a_quiet_page_say_nothing_more.Goals as goal

pub returns-clause-line : goal.returns-clause-line
returns-clause-line c = tick-line

pub returns-clause-quiet : goal.returns-clause-quiet
returns-clause-quiet c = tick-quiet
