use Rattle.std.proofs.Common.{drop}
use Rattle.std.specs.List.{AllByRecursion}
use Rattle.page_model.specs.Callbacks.{Script}
use Rattle.page_model.specs.Runs.{for_each}
use Rattle.page_model.specs.Ticks.{scroll_steps}
use Rattle.container_model.specs.Seen.{seen_container}
use Rattle.frame_update.proofs.Going.{IsOnItsWay}
use Rattle.frame_update.proofs.Scrolling.{IsThere, scroll_one}
use Rattle.frame_update.proofs.steps.scroll_steps.Given as goal

-- the events of the targets before this one were fired, and those from here on follow, which are all there
abbrev pub invariant-loop-target : goal.invariant-loop-target
invariant-loop-target g l = record {
  way :
      IsOnItsWay g.K.Sink.taken g.K.Sink.faults l.fn.run l.run (λ (script : Script). scroll_steps script l.document.0 l.fn.run.page.now.world)
      (λ (script : Script). for_each (λ item. scroll_one script l.document.0 (seen_container item)) (drop l.target-index l.target-items) l.run.page.now.world);
  there : AllByRecursion (IsThere l.run.page.now.world) l.target-items;
}
