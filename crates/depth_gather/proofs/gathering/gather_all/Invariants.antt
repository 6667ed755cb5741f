use Rattle.std.proofs.Common.{◌≡◌, ◌-◌, length}
use Rattle.resize_observer.specs.Observers.{observers_of}
use Rattle.page_model.specs.Gathering.{gathering}
use Rattle.depth_gather.proofs.Gatherings.{left_from}
use Rattle.depth_gather.proofs.gathering.gather_all.Given as goal

abbrev pub invariant-loop-observer : goal.invariant-loop-observer
invariant-loop-observer g l = record {
  left : left_from (g.Z.Sizes.sight l.sizes) l.document.0 l.depth l.place l.observers ≡ record l.fn.observers { part = gathering (g.Z.Sizes.sight l.sizes) l.document.0 l.depth (l.fn.observers.part) };
  count : length l.observers.part.made ≡ length l.fn.observers.part.made;
}

abbrev pub decreases-loop-observer : goal.decreases-loop-observer
decreases-loop-observer g l = length (observers_of l.observers.part l.document.0) - l.place
