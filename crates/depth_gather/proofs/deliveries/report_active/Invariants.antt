use Rattle.std.proofs.Common.{◌≡◌, length}
use Rattle.resize_observer.specs.Serials.{HasSerials}
use Rattle.depth_gather.specs.Deliveries.{active_at}
use Rattle.depth_gather.proofs.Reported.{reporting_first}
use Rattle.depth_gather.proofs.deliveries.report_active.Given as goal

abbrev pub invariant-loop-place : goal.invariant-loop-place
invariant-loop-place g l = record {
  so_far : l.observers ≡ reporting_first (g.Z.Sizes.sight l.sizes) l.place (l.observer.0) l.fn.observers;
  count : length l.observers.part.made ≡ length l.fn.observers.part.made;
  end : l.place-end ≡ length (active_at l.fn.observers.part (l.observer.0));
  serials : HasSerials l.fn.observers.part.given l.fn.observers.part.made;
}
