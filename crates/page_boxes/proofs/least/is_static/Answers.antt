use Rattle.std.proofs.Common.{◌≡◌, false, inl, inr, ap, sym, ◌∙◌}
use Rattle.layout_model.specs.Nodes.{is_static}
use Rattle.style_values.specs.Seen.{seen_position}
use Rattle.block_layout.proofs.Nodes.{item_is}
use Rattle.page_boxes.proofs.least.is_static.Goals as goal

pub returns-in-Static : goal.returns-in-Static
returns-in-Static g c =
    sym
    (ap (λ item. is_static (item.style.position)) (item_is g.P.Styled.style g.P.Styled.kind c.args.tree.now.nodes (c.args.node.0) _ c.payload.ensures.value)
    ∙ sym (ap (λ style. is_static (style.position)) c.style.ensures.value) ∙ ap (λ p. is_static (seen_position p)) c.in-Static.is)

pub returns-in-Relative : goal.returns-in-Relative
returns-in-Relative g c =
    let other : is_static (seen_position c.style.result.now.position) ≡ false = elim c.in-Relative.is [
      | inl relative ↦ ap (λ p. is_static (seen_position p)) relative
      | inr out ↦ elim out [
        | inl absolute ↦ ap (λ p. is_static (seen_position p)) absolute
        | inr fixed ↦ ap (λ p. is_static (seen_position p)) fixed
      ]
    ] in
    sym
    (ap (λ item. is_static (item.style.position)) (item_is g.P.Styled.style g.P.Styled.kind c.args.tree.now.nodes (c.args.node.0) _ c.payload.ensures.value)
    ∙ sym (ap (λ style. is_static (style.position)) c.style.ensures.value) ∙ other)
