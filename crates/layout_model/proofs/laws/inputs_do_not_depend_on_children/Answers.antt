use Rattle.std.proofs.Common.{refl}
use Rattle.px_units.specs.Lengths.{cap, part}
use Rattle.layout_model.specs.Boxes.{child_inputs, computed}
use Rattle.layout_model.proofs.Handed.{handed_height, handed_between, none_handed}
use Rattle.layout_model.proofs.laws.inputs_do_not_depend_on_children.Goals as goal

pub returns-clause-width : goal.returns-clause-width
unfolding child_inputs computed
returns-clause-width c item inputs inside = refl

pub returns-clause-pixels : goal.returns-clause-pixels
returns-clause-pixels c item inputs inside units is = handed_height item inputs inside (cap units) (rw is)

pub returns-clause-percentage : goal.returns-clause-percentage
returns-clause-percentage c item inputs inside hundredths basis is given = handed_height item inputs inside (cap (part hundredths basis)) (rw (is, given))

pub returns-clause-indefinite : goal.returns-clause-indefinite
returns-clause-indefinite c item inputs hundredths is none loose = none_handed item inputs (rw (is, none)) loose

pub returns-clause-automatic : goal.returns-clause-automatic
returns-clause-automatic c item inputs is loose = none_handed item inputs (rw is) loose

pub returns-clause-stretched : goal.returns-clause-stretched
returns-clause-stretched c item inputs inside block is stretched = handed_between item inputs inside block stretched

pub returns-clause-flow : goal.returns-clause-flow
unfolding child_inputs computed
returns-clause-flow c item inputs = refl
