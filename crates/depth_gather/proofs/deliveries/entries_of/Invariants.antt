use Rattle.std.proofs.Common.{◌≡◌, take}
use Rattle.std.specs.List.{AllByRecursion}
use Rattle.depth_gather.specs.Entries.{HasLengths}
use Rattle.resize_observer.specs.Observations.{seen_observations}
use Rattle.depth_gather.specs.Deliveries.{entries_in}
use Rattle.depth_gather.proofs.deliveries.entries_of.Given as goal

abbrev pub invariant-loop-observation : goal.invariant-loop-observation
invariant-loop-observation g l =
    (l.entries.items ≡ entries_in (g.Z.Sizes.sight l.sizes) (take l.observation-index (seen_observations l.active)))
    × AllByRecursion HasLengths l.entries.items
