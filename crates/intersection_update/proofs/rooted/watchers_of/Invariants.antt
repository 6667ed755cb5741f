use Rattle.std.proofs.Common.{◌≡◌, ◌<◌, All, length, take}
use Rattle.page_model.specs.World.{IntersectionObserver}
use Rattle.page_model.specs.Intersections.{is_rooted_in, places_from}
use Rattle.intersection_observer.specs.declared.root.WatcherId.{WatcherId}
use Rattle.intersection_update.specs.Watching.{watcher_numbers}
use Rattle.intersection_update.proofs.rooted.watchers_of.Given as goal

abbrev pub invariant-loop-number : goal.invariant-loop-number
invariant-loop-number l = record {
  numbers : watcher_numbers l.found.items ≡ places_from 0 (λ (it : IntersectionObserver). is_rooted_in l.page.tree l.document.0 (it.root)) (take l.number l.watchers.part.made);
  made : All (λ (watcher : WatcherId). watcher.0 < length l.watchers.part.made) l.found.items;
  end : l.number-end ≡ length l.watchers.part.made;
}
