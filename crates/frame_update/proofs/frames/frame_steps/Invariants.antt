use Rattle.std.proofs.Common.{length}
use Rattle.page_model.specs.Callbacks.{Script}
use Rattle.page_model.specs.Ticks.{frame_steps}
use Rattle.frame_update.proofs.FrameTurns.{frames_left, AreOf}
use Rattle.frame_update.proofs.Going.{IsOnItsWay}
use Rattle.frame_update.proofs.frames.frame_steps.Given as goal

-- the frame callbacks up to here were run, and those of the batch that still stand follow
abbrev pub invariant-loop-document : goal.invariant-loop-document
invariant-loop-document g l = record {
  way :
      IsOnItsWay g.K.Sink.taken g.K.Sink.faults l.fn.run l.run (λ (script : Script). frame_steps script l.document.0 l.fn.run.page.now.world)
      (λ (script : Script). frames_left script l.document.0 l.batch l.run.page.now.world);
  own : AreOf l.document.0 l.batch;
}

abbrev pub decreases-loop-document : goal.decreases-loop-document
decreases-loop-document g l = length l.batch
