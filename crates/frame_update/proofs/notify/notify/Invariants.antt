use Rattle.std.proofs.Common.{drop}
use Rattle.page_model.specs.Callbacks.{Script}
use Rattle.page_model.specs.Intersections.{notify, notify_watcher}
use Rattle.page_model.specs.Runs.{for_each}
use Rattle.intersection_observer.specs.declared.root.WatcherId.{WatcherId}
use Rattle.frame_update.proofs.Going.{IsOnItsWay}
use Rattle.frame_update.proofs.Notifying.{AreThere}
use Rattle.frame_update.proofs.notify.notify.Given as goal

-- the observers before this one had their turn, and those from here on follow, which are all there
abbrev pub invariant-loop-watcher : goal.invariant-loop-watcher
invariant-loop-watcher g l = record {
  way :
      IsOnItsWay g.K.Sink.taken g.K.Sink.faults l.fn.run l.run (λ (script : Script). notify script l.fn.document.0 l.fn.run.page.now.world)
      (λ (script : Script). for_each (λ (item : WatcherId). notify_watcher script (item.0)) (drop l.watcher-index l.watcher-items) l.run.page.now.world);
  there : AreThere l.run.page.now.world l.watcher-items;
}
