use Rattle.layout_model.specs.Boxes.{computed}
use Rattle.layout_model.proofs.Caps.{cap_most}
use Rattle.layout_model.proofs.laws.used_sizes_are_capped.Goals as goal

pub returns-clause-width : goal.returns-clause-width
unfolding computed
returns-clause-width c item inputs inside = cap_most _

pub returns-clause-height : goal.returns-clause-height
unfolding computed
returns-clause-height c item inputs inside = cap_most _
