use Rattle.std.proofs.Common.{◌≡◌, ◌≤◌, take, count_by}
use Rattle.script_model.specs.Reading.{is_block}
use Rattle.script_syntax.specs.Frames.{opening_of}
use Rattle.script_syntax.proofs.builder.blocks_in.Given as goal

abbrev pub invariant-loop-frame : goal.invariant-loop-frame
invariant-loop-frame l =
    (l.count ≡ count_by (λ frame. is_block (opening_of frame.opening)) (take l.frame-index l.frames)) × (l.count ≤ l.frame-index)
