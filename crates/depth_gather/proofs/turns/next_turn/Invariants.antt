use Rattle.std.proofs.Common.{◌≡◌, ◌-◌, length}
use Rattle.resize_observer.specs.Observers.{observers_of}
use Rattle.depth_gather.specs.Deliveries.{turn_from}
use Rattle.depth_gather.proofs.turns.next_turn.Given as goal

abbrev pub invariant-loop-observer : goal.invariant-loop-observer
invariant-loop-observer l = turn_from l.document.0 l.at l.observers.part ≡ turn_from l.document.0 l.place l.observers.part

abbrev pub decreases-loop-observer : goal.decreases-loop-observer
decreases-loop-observer l = length (observers_of l.observers.part l.document.0) - l.at
