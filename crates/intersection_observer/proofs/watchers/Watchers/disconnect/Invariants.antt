use Rattle.std.proofs.Common.{◌≡◌, length}
use Rattle.page_model.specs.IntersectionObserving.{without_registrations}
use Rattle.intersection_observer.specs.Watchers.{watcher_at}
use Rattle.intersection_observer.proofs.watchers.Watchers.disconnect.Given as goal

-- without the registrations the observers are as at the begin
abbrev pub invariant-loop-target : goal.invariant-loop-target
invariant-loop-target l = record {
  rest :
      record (l.self) { part = without_registrations l.watcher.0 (l.self.part) } ≡ record (l.initial.self) { part = without_registrations l.watcher.0 (l.initial.self.part) };
  count : length l.self.part.made ≡ length l.initial.self.part.made;
}

abbrev pub decreases-loop-target : goal.decreases-loop-target
decreases-loop-target l = length (watcher_at l.self l.watcher.0).registrations
