use Rattle.std.proofs.Common.{◌≡◌, flat_map, take}
use Rattle.box_inspector.specs.BoxText.{box_text}
use Rattle.script_replay.proofs.sights.text_of_boxes.Given as goal

abbrev pub invariant-loop-line : goal.invariant-loop-line
invariant-loop-line l = l.text.items ≡ flat_map box_text (take l.line-index l.lines)
