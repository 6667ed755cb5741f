use Rattle.std.proofs.Common.{◌≡◌}
use Rattle.handlers.specs.Runs.{loans_of}
use Rattle.frame_update.proofs.RoundLoops.{IsLooping, still_left}
use Rattle.frame_update.proofs.rounds.resize_loop.Given as goal

-- the rounds up to here were run
abbrev pub invariant-loop-gathered : goal.invariant-loop-gathered
invariant-loop-gathered g l = record {
  loop :
      IsLooping l.run.script.now.items l.document.0 (g.K.Sink.taken l.fn.run.sink.now) (g.K.Sink.taken l.run.sink.now) (g.K.Sink.faults l.fn.run.sink.now) (g.K.Sink.faults l.run.sink.now)
      l.fn.run.page.now.world l.gathered l.run.page.now.world;
  script : l.run.script ≡ l.fn.run.script;
  lent : loans_of l.run ≡ loans_of l.fn.run;
}

abbrev pub decreases-loop-gathered : goal.decreases-loop-gathered
decreases-loop-gathered g l = still_left l.gathered l.run.page.now.world
