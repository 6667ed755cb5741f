use Rattle.std.proofs.Common.{◌≡◌, ◌+◌, ◌-◌, length, drop}
use Rattle.depth_gather.specs.Gathering.{active_count}
use Rattle.depth_gather.proofs.Places.{active_in, its_of}
use Rattle.depth_gather.proofs.gathering.active_number.Given as goal

abbrev pub invariant-loop-observer : goal.invariant-loop-observer
invariant-loop-observer l = l.number + active_in (drop l.place (its_of l.document.0 l.observers.part)) ≡ active_count l.document.0 l.observers.part

abbrev pub decreases-loop-observer : goal.decreases-loop-observer
decreases-loop-observer l = length (its_of l.document.0 l.observers.part) - l.place
