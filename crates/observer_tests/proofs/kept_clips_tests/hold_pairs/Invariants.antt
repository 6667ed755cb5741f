use Rattle.clip_chain.specs.Scenes.{Scene}
use Rattle.observer_tests.specs.Sample.{AreExact}
use Rattle.observer_tests.proofs.kept_clips_tests.hold_pairs.Given as goal

-- no pair's clip is computed here
abbrev pub invariant-loop-number : goal.invariant-loop-number
invariant-loop-number g l = (scene : Scene) → AreExact scene l.fn.clips → AreExact scene l.clips
