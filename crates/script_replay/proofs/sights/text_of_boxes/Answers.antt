use Rattle.std.proofs.Common.{arith}
use Rattle.script_replay.proofs.Sighting.{boxes_told}
use Rattle.script_replay.proofs.sights.text_of_boxes.Goals as goal

pub returns : goal.returns
returns c = boxes_told c.args.lines.now c.loop-line.line-index _ (omega arith) c.loop-line.invariant
