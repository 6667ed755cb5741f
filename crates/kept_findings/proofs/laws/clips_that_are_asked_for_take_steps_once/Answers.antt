use Rattle.kept_findings.proofs.Ticking.{steps_less, all_steps_less, none_again}
use Rattle.kept_findings.proofs.laws.clips_that_are_asked_for_take_steps_once.Goals as goal

pub returns-clause-together : goal.returns-clause-together
returns-clause-together c = all_steps_less

pub returns-clause-less : goal.returns-clause-less
returns-clause-less c = steps_less

pub returns-clause-again : goal.returns-clause-again
returns-clause-again c = λ scene standings it between serial clips numbered below. none_again scene standings it between clips numbered below serial
