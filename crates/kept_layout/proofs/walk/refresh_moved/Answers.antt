use Rattle.std.proofs.Common.{◌≡◌, true, refl, inl, inr, ap, sym, ◌∙◌}
use Rattle.layout_model.specs.Nodes.{is_flow}
use Rattle.style_values.specs.Seen.{seen_position}
use Rattle.block_layout.specs.Trees.{layout_tree}
use Rattle.block_layout.proofs.Forests.{linked, shallow}
use Rattle.kept_layout.proofs.Held.{tree_nodes}
use Rattle.kept_layout.proofs.Entering.{entered_in_flow, entered_absolute, entered_fixed}
use Rattle.kept_layout.proofs.Shapes.{shaped}
use Rattle.kept_layout.proofs.walk.refresh_moved.Goals as goal

pub returns-in-Absolute : goal.returns-in-Absolute
returns-in-Absolute g c =
    let forest = c.position.ensures.forest in
    let place = c.position.ensures.value (layout_tree g.P.Styled.style g.P.Styled.kind c.args.tree.now.nodes) (tree_nodes g.P.Styled.style g.P.Styled.kind c.args.tree.now.nodes) in
    entered_absolute (layout_tree g.P.Styled.style g.P.Styled.kind c.args.tree.now.nodes) (shaped g.P.Styled.style g.P.Styled.kind forest) (linked g.P.Styled.style g.P.Styled.kind forest) (shallow g.P.Styled.style g.P.Styled.kind forest)
    (c.args.node.0) c.args.outside _ _ _ _ _ _ c.refresh_below.ensures (sym place ∙ ap seen_position c.in-Absolute.is) refl

pub returns-in-Fixed : goal.returns-in-Fixed
returns-in-Fixed g c =
    let forest = c.position.ensures.forest in
    let place = c.position.ensures.value (layout_tree g.P.Styled.style g.P.Styled.kind c.args.tree.now.nodes) (tree_nodes g.P.Styled.style g.P.Styled.kind c.args.tree.now.nodes) in
    entered_fixed (layout_tree g.P.Styled.style g.P.Styled.kind c.args.tree.now.nodes) (shaped g.P.Styled.style g.P.Styled.kind forest) (linked g.P.Styled.style g.P.Styled.kind forest) (shallow g.P.Styled.style g.P.Styled.kind forest)
    (c.args.node.0) c.args.outside _ _ _ _ _ _ c.refresh_below-in-Fixed.ensures (sym place ∙ ap seen_position c.in-Fixed.is) refl

pub returns-in-Static : goal.returns-in-Static
returns-in-Static g c =
    let forest = c.position.ensures.forest in
    let place = c.position.ensures.value (layout_tree g.P.Styled.style g.P.Styled.kind c.args.tree.now.nodes) (tree_nodes g.P.Styled.style g.P.Styled.kind c.args.tree.now.nodes) in
    let flow : is_flow (seen_position c.position.result) ≡ true = elim c.in-Static.is [
      | inl static ↦ ap (λ position. is_flow (seen_position position)) static
      | inr relative ↦ ap (λ position. is_flow (seen_position position)) relative
    ] in
    entered_in_flow (layout_tree g.P.Styled.style g.P.Styled.kind c.args.tree.now.nodes) (shaped g.P.Styled.style g.P.Styled.kind forest) (linked g.P.Styled.style g.P.Styled.kind forest) (shallow g.P.Styled.style g.P.Styled.kind forest)
    (c.args.node.0) c.args.outside _ _ _ (ap is_flow (sym place) ∙ flow)
