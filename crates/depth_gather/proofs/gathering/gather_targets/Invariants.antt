use Rattle.std.proofs.Common.{◌≡◌, length}
use Rattle.resize_observer.specs.Observers.{observer_at, changing}
use Rattle.depth_gather.specs.Gathering.{gathered_first}
use Rattle.depth_gather.proofs.gathering.gather_targets.Given as goal

abbrev pub invariant-loop-place : goal.invariant-loop-place
invariant-loop-place g l = record {
  so_far : l.observers ≡ changing (gathered_first (g.Z.Sizes.sight l.sizes) l.depth l.place) (l.observer.0) l.fn.observers;
  count : length l.observers.part.made ≡ length l.fn.observers.part.made;
  end : l.place-end ≡ length (observer_at l.fn.observers (l.observer.0)).targets;
}
