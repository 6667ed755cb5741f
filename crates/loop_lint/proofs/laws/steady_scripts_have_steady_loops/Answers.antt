-- By the laws of loops whose commands uproot nothing.
use Rattle.loop_lint.proofs.Steady.{steady-loops}
use Rattle.loop_lint.proofs.laws.steady_scripts_have_steady_loops.Goals as goal

pub returns : goal.returns
returns c = λ version items steady. steady-loops items steady version
