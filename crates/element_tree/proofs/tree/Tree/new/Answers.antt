use Rattle.element_tree.proofs.Closing.{IsSound-empty, nodes-empty}
use Rattle.element_tree.proofs.tree.Tree.new.Goals as goal

pub invariant_of-result : goal.invariant_of-result
invariant_of-result g c = IsSound-empty c.new.result _ _ c.new.ensures.empty c.requires.low c.requires.high

pub returns-clause-empty : goal.returns-clause-empty
returns-clause-empty g c = nodes-empty c.new.result 0 _ c.new.ensures.empty c.requires.low c.requires.high
