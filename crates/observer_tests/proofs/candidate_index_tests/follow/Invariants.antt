use Rattle.observer_tests.specs.Sample.{sample, AreExact}
use Rattle.observer_tests.proofs.candidate_index_tests.follow.Given as goal

-- a clip that is handed out as it is held is exact
abbrev pub invariant-loop-step : goal.invariant-loop-step
invariant-loop-step g l = AreExact (sample l.page.clips l.page.boxes l.page.view) l.clips
