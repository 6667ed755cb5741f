use Rattle.std.proofs.Common.{ap, ◌∙◌, arith}
use Rattle.px_units.specs.Lengths.{cap}
use Rattle.layout_model.specs.Boxes.{box_in}
use Rattle.layout_model.proofs.Offsets.{offset_found, offset_top}
use Rattle.layout_model.proofs.laws.offsets_come_from_boxes.Goals as goal

pub returns-clause-across : goal.returns-clause-across
unfolding box_in
returns-clause-across c at view inputs own n p is found found_own = ap (λ offset. offset.0) (offset_found at view inputs own n p is found found_own) ∙ ap cap (omega arith)

pub returns-clause-down : goal.returns-clause-down
unfolding box_in
returns-clause-down c at view inputs own n p is found found_own = ap (λ offset. offset.1) (offset_found at view inputs own n p is found found_own)

pub returns-clause-root : goal.returns-clause-root
unfolding box_in
returns-clause-root c at view inputs n is found = offset_top at view inputs n is found
