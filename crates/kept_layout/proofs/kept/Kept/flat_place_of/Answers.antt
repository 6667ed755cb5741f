use Rattle.std.proofs.Common.{◌≤◌, length, ap, sym, subst, arith, ℕ, ℤ}
use Rattle.std.proofs.lemmas.Bool.Decides.{nat_tests}
use Rattle.std.proofs.lemmas.Int.{ints}
use Rattle.element_tree.specs.declared.tree.Tree.{Tree}
use Rattle.block_layout.specs.Trees.{layout_tree}
use Rattle.positioned_layout.specs.Measured.{AreMeasuresUp}
use Rattle.positioned_layout.specs.Seen.{IsNear}
use Rattle.kept_layout.proofs.Held.{tree_nodes}
use Rattle.kept_layout.proofs.Measuring.{same_measures}
use Rattle.kept_layout.proofs.Missing.{unboxed_past}
use Rattle.kept_layout.proofs.kept.Kept.flat_place_of.Goals as goal

pub returns-then-holds-clause-value : goal.returns-then-holds-clause-value
returns-then-holds-clause-value g c view sized fresh =
    let at = layout_tree g.P.Styled.style g.P.Styled.kind c.args.tree.now.nodes in
    c.flat_place.ensures.value at view (tree_nodes g.P.Styled.style g.P.Styled.kind c.args.tree.now.nodes)
    (subst (AreMeasuresUp at view (c.args.node.0))
    (sym (same_measures g.P.Styled.style g.P.Styled.kind _ _ _ _ (ap (λ (t : Tree g.row.P.Denot). t.nodes) c.measures.ensures.tree) c.measures.ensures.kept))
    (c.measures.ensures.path view sized (c.args.node.0) fresh))
    fresh.boxed

pub returns-else-holds-clause-value : goal.returns-else-holds-clause-value
returns-else-holds-clause-value g c view sized fresh =
    let past : length c.args.tree.now.nodes ≤ c.args.node.0 = grind (arith, nat_tests, c.holds.ensures.value, c.if-holds.false) in
    absurd (unboxed_past g.P.Styled.style g.P.Styled.kind c.holds.ensures.forest view (c.args.node.0) past fresh.boxed)

-- what is near after so many levels is so after as many as there can be
nearer : (most levels : ℕ) (units : ℤ) → levels ≤ most → IsNear levels units → IsNear most units
nearer most levels units low near = (omega (arith, ints, near.0), omega (arith, ints, near.1))

pub returns-then-holds-clause-left : goal.returns-then-holds-clause-left
returns-then-holds-clause-left g c = nearer _ _ _ (c.holds.ensures.forest.within (c.args.node.0)) c.flat_place.ensures.range.0

pub returns-then-holds-clause-top : goal.returns-then-holds-clause-top
returns-then-holds-clause-top g c = nearer _ _ _ (c.holds.ensures.forest.within (c.args.node.0)) c.flat_place.ensures.range.1
