use Rattle.std.proofs.Common.{◌≡◌, ◌-◌}
use Rattle.handlers.specs.Runs.{loans_of}
use Rattle.frame_update.proofs.Broadcasts.{IsBroadcasting}
use Rattle.frame_update.proofs.rounds.broadcast.Given as goal

-- the turns up to this place were taken
abbrev pub invariant-loop-document : goal.invariant-loop-document
invariant-loop-document g l = record {
  turns :
      IsBroadcasting l.run.script.now.items l.document.0 (g.K.Sink.taken l.fn.run.sink.now) (g.K.Sink.taken l.run.sink.now) (g.K.Sink.faults l.fn.run.sink.now) (g.K.Sink.faults l.run.sink.now)
      l.fn.run.page.now.world l.place l.least l.run.page.now.world;
  script : l.run.script ≡ l.fn.run.script;
  lent : loans_of l.run ≡ loans_of l.fn.run;
}

abbrev pub decreases-loop-document : goal.decreases-loop-document
decreases-loop-document g l = 4097 - l.place
