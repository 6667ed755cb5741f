use Rattle.stream_replay.proofs.Feeding.{IsFedTo}
use Rattle.stream_replay.proofs.side_by_side.text_of.Given as goal

abbrev pub invariant-loop-part : goal.invariant-loop-part
invariant-loop-part l = IsFedTo l.page l.stream l.part-index l.text
