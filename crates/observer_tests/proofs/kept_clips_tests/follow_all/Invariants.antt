use Rattle.observer_tests.specs.Sample.{sample, AreExact}
use Rattle.observer_tests.proofs.kept_clips_tests.follow_all.Given as goal

-- a clip that is handed out as it is held is exact
abbrev pub invariant-loop-step : goal.invariant-loop-step
invariant-loop-step g l = AreExact (sample l.page.clips l.page.boxes l.page.view) l.clips
