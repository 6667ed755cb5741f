use Rattle.std.proofs.Common.{◌≡◌, true, false, inl, inr, ap, sym, ◌∙◌}
use Rattle.layout_model.specs.Nodes.{is_flow}
use Rattle.style_values.specs.Seen.{seen_position}
use Rattle.block_layout.specs.Trees.{layout_tree}
use Rattle.kept_layout.proofs.Held.{tree_nodes}
use Rattle.kept_layout.proofs.walk.is_in_flow.Goals as goal

pub returns-in-Static : goal.returns-in-Static
returns-in-Static g c =
    let flow : is_flow (seen_position c.position.result) ≡ true = elim c.in-Static.is [
      | inl static ↦ ap (λ position. is_flow (seen_position position)) static
      | inr relative ↦ ap (λ position. is_flow (seen_position position)) relative
    ] in
    sym flow
    ∙ ap is_flow (c.position.ensures.value (layout_tree g.P.Styled.style g.P.Styled.kind c.args.tree.now.nodes) (tree_nodes g.P.Styled.style g.P.Styled.kind c.args.tree.now.nodes))

pub returns-in-Absolute : goal.returns-in-Absolute
returns-in-Absolute g c =
    let out : is_flow (seen_position c.position.result) ≡ false = elim c.in-Absolute.is [
      | inl absolute ↦ ap (λ position. is_flow (seen_position position)) absolute
      | inr fixed ↦ ap (λ position. is_flow (seen_position position)) fixed
    ] in
    sym out
    ∙ ap is_flow (c.position.ensures.value (layout_tree g.P.Styled.style g.P.Styled.kind c.args.tree.now.nodes) (tree_nodes g.P.Styled.style g.P.Styled.kind c.args.tree.now.nodes))
