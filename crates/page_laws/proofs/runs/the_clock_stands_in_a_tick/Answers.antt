-- No command moves the clock.
use Rattle.page_laws.proofs.Later.{clock-stands, tick-refused}
use Rattle.page_laws.proofs.runs.the_clock_stands_in_a_tick.Goals as goal

pub returns-clause-stands : goal.returns-clause-stands
returns-clause-stands c = clock-stands

pub returns-clause-refused : goal.returns-clause-refused
returns-clause-refused c = tick-refused
