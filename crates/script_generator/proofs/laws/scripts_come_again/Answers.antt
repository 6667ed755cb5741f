use Rattle.script_generator.proofs.Periods.{come_again}
use Rattle.script_generator.proofs.laws.scripts_come_again.Goals as goal

pub returns : goal.returns
returns c = come_again
