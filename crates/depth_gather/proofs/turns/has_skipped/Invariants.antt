use Rattle.std.proofs.Common.{◌≡◌, ◌-◌, length, drop}
use Rattle.std.specs.List.{list_any}
use Rattle.page_model.specs.World.{ResizeObserver}
use Rattle.page_model.specs.Gathering.{has_skipped, is_filled}
use Rattle.depth_gather.proofs.Places.{its_of}
use Rattle.depth_gather.proofs.turns.has_skipped.Given as goal

abbrev pub invariant-loop-observer : goal.invariant-loop-observer
invariant-loop-observer l =
    list_any (λ (it : ResizeObserver). is_filled it.skipped) (drop l.place (its_of l.document.0 l.observers.part)) ≡ has_skipped l.document.0 l.observers.part

abbrev pub decreases-loop-observer : goal.decreases-loop-observer
decreases-loop-observer l = length (its_of l.document.0 l.observers.part) - l.place
