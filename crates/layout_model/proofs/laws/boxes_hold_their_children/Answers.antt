use Rattle.layout_model.specs.Boxes.{box_at}
use Rattle.layout_model.proofs.Trees.{box_of_children}
use Rattle.layout_model.proofs.laws.boxes_hold_their_children.Goals as goal

pub returns : goal.returns
unfolding box_at
returns c = record { value = λ at linked shallow inputs n. box_of_children at linked shallow inputs n }
