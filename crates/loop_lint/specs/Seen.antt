-- What the laws stand for in the definitions.
use Rattle.std.specs.Prelude.{Bool}
use Rattle.script_model.specs.Syntax.{Action}
use Rattle.loop_lint.specs.declared.kinds.Law.{Law}
use Rattle.loop_lint.specs.declared.kinds.Law.TheVariants as law
use Rattle.loop_lint.specs.Verdicts.{moves, disturbs}

-- what a law forbids in loop handlers
abbrev pub forbidden_by : Law → Action → Bool
forbidden_by law.Steady action = moves action
forbidden_by law.Quiet action = disturbs action
