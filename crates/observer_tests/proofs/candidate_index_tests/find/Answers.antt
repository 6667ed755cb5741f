-- Clips stay exact where a finding is found anew.
use Rattle.observer_tests.proofs.candidate_index_tests.find.Goals as goal

pub returns : goal.returns
returns g c = λ pair. c.recompute.ensures.exact pair (c.requires.exact pair)
