use Rattle.kept_layout.proofs.Steady.{new_node}
use Rattle.kept_layout.proofs.laws.new_nodes_need_no_mark.Goals as goal

pub returns : goal.returns
returns c = new_node
