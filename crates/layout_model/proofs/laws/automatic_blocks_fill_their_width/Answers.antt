use Rattle.std.proofs.Common.{arith}
use Rattle.layout_model.specs.Boxes.{computed}
use Rattle.layout_model.proofs.Limits.{fills, fills_between, fills_down, filled}
use Rattle.layout_model.proofs.laws.automatic_blocks_fill_their_width.Goals as goal

pub returns-clause-value : goal.returns-clause-value
returns-clause-value c item inputs inside block flow auto least most room small =
    omega (arith, fills item inputs inside block flow auto least most, room, small)

pub returns-clause-out_of_flow : goal.returns-clause-out_of_flow
returns-clause-out_of_flow c item inputs inside left right block flow auto least most at_left at_right room small =
    filled (inputs.width) _ ((computed item inputs inside).width) _ left right (fills_between item inputs inside left right block flow auto least most at_left at_right) (omega arith) room small

pub returns-clause-high : goal.returns-clause-high
returns-clause-high c item inputs inside height top bottom block flow auto least most given at_top at_bottom room small =
    filled height _ ((computed item inputs inside).height) _ top bottom (fills_down item inputs inside height top bottom block flow auto least most given at_top at_bottom) (omega arith) room small
