use Rattle.std.proofs.Common.{◌-◌}
use Rattle.page_model.specs.Callbacks.{Script}
use Rattle.page_model.specs.Ticks.{media_steps}
use Rattle.frame_update.proofs.Evaluating.{turns_from}
use Rattle.frame_update.proofs.Going.{IsOnItsWay}
use Rattle.frame_update.proofs.steps.media_steps.Given as goal

-- the lists before this place were evaluated, and those from here on follow
abbrev pub invariant-loop-document : goal.invariant-loop-document
invariant-loop-document g l =
    IsOnItsWay g.K.Sink.taken g.K.Sink.faults l.fn.run l.run (λ (script : Script). media_steps script l.document.0 l.fn.run.page.now.world)
    (λ (script : Script). turns_from script l.document.0 l.place l.run.page.now.world)

abbrev pub decreases-loop-document : goal.decreases-loop-document
decreases-loop-document g l = 4096 - l.place
