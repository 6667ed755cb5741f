use Rattle.observer_tests.proofs.common.touch.Goals as goal

pub returns : goal.returns
returns g c = λ before after exact differs pair. c.touch.ensures.exact before after pair (exact pair) differs
