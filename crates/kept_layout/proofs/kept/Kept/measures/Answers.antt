use Rattle.block_layout.proofs.Forests.{shallow}
use Rattle.block_layout.specs.Trees.{layout_tree}
use Rattle.kept_layout.specs.Slots.{slot_in}
use Rattle.kept_layout.proofs.Measuring.{measures_all, measures_up}
use Rattle.kept_layout.proofs.kept.Kept.measures.Goals as goal

pub returns-clause-all : goal.returns-clause-all
returns-clause-all g c view sized all =
    measures_all (layout_tree g.P.Styled.style g.P.Styled.kind c.args.tree.now.nodes) (shallow g.P.Styled.style g.P.Styled.kind c.holds.ensures.forest) view sized (slot_in c.args.self.now) all

pub returns-clause-path : goal.returns-clause-path
returns-clause-path g c view sized n fresh =
    measures_up (layout_tree g.P.Styled.style g.P.Styled.kind c.args.tree.now.nodes) (shallow g.P.Styled.style g.P.Styled.kind c.holds.ensures.forest) view sized (slot_in c.args.self.now) n fresh
