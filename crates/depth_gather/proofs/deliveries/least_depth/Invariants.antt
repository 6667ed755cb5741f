use Rattle.std.proofs.Common.{◌≡◌, drop, map, Some, None}
use Rattle.std.specs.Prelude.{fold}
use Rattle.page_model.specs.Loop.{shallower}
use Rattle.depth_gather.specs.Entries.{seen_entry}
use Rattle.depth_gather.proofs.deliveries.least_depth.Given as goal

abbrev pub invariant-loop-entry : goal.invariant-loop-entry
invariant-loop-entry l = fold shallower (Some l.least) (map seen_entry (drop l.entry-index l.entries)) ≡ fold shallower None (map seen_entry l.delivery.entries)
