use Rattle.std.proofs.Common.{length}
use Rattle.std.specs.List.{AllByRecursion}
use Rattle.page_model.specs.Runs.{for_each}
use Rattle.page_model.specs.Callbacks.{Script, invoke, notify_listener}
use Rattle.event_tables.specs.Seen.{seen_target}
use Rattle.frame_update.proofs.Going.{IsOnItsWay}
use Rattle.frame_update.proofs.Listening.{IsAt}
use Rattle.frame_update.proofs.events.invoke.Given as goal

-- those handed out were called, and those that are left follow
abbrev pub invariant-loop-handler : goal.invariant-loop-handler
invariant-loop-handler g l = record {
  way :
      IsOnItsWay g.K.Sink.taken g.K.Sink.faults l.fn.run l.run (λ (script : Script). invoke script (seen_target l.fn.target) l.fn.event l.fn.run.page.now.world)
      (λ (script : Script). for_each (notify_listener script) l.dispatch l.run.page.now.world);
  at : AllByRecursion (IsAt (seen_target l.fn.target)) l.dispatch;
}

abbrev pub decreases-loop-handler : goal.decreases-loop-handler
decreases-loop-handler g l = length l.dispatch
