use Rattle.kept_layout.proofs.Moved.{removed_only, inserted_only, added_only, written_only}
use Rattle.kept_layout.proofs.laws.trees_change_at_few_nodes.Goals as goal

pub returns-clause-removed : goal.returns-clause-removed
returns-clause-removed g c most nodes n forest = removed_only g.P.Styled.style g.P.Styled.kind forest n

pub returns-clause-inserted : goal.returns-clause-inserted
returns-clause-inserted g c most nodes p n mark forest = inserted_only g.P.Styled.style g.P.Styled.kind forest p n mark

pub returns-clause-added : goal.returns-clause-added
returns-clause-added g c most nodes payload forest = added_only g.P.Styled.style g.P.Styled.kind forest payload

pub returns-clause-written : goal.returns-clause-written
returns-clause-written g c most nodes n payload forest = written_only g.P.Styled.style g.P.Styled.kind forest n payload
