use Rattle.std.proofs.Common.{◌≡◌, length}
use Rattle.page_model.specs.Lookups.{intersection_observer_at}
use Rattle.page_state.specs.Findings.{KeepsFindings}
use Rattle.page_state.proofs.Disconnecting.{cleared}
use Rattle.page_state.proofs.page.Page.unregister_all.Given as goal

-- without the registrations the page is as at the begin
abbrev pub invariant-loop-target : goal.invariant-loop-target
invariant-loop-target l = record {
  rest : cleared l.watcher.0 l.initial.self.found l.self ≡ cleared l.watcher.0 l.initial.self.found l.initial.self;
  count : length l.self.world.intersection_observers.made ≡ length l.initial.self.world.intersection_observers.made;
  findings : KeepsFindings l.initial.self.world.intersection_observers l.self.world.intersection_observers l.initial.self.found l.self.found;
}

abbrev pub decreases-loop-target : goal.decreases-loop-target
decreases-loop-target l = length (intersection_observer_at l.self.world.intersection_observers l.watcher.0).registrations
