use Rattle.std.proofs.Common.{◌≡◌, true, false, inl, inr, ap, sym, ◌∙◌}
use Rattle.std.specs.Prelude.{is_some}
use Rattle.layout_model.specs.Nodes.{is_flow}
use Rattle.style_values.specs.Seen.{seen_position}
use Rattle.block_layout.proofs.Nodes.{some_ids, hidden_is, passed_in_flow, passed_out_of_flow}
use Rattle.block_layout.proofs.trees.is_passed.Goals as goal

pub returns-in-Static-clause-value : goal.returns-in-Static-clause-value
returns-in-Static-clause-value g c =
    let flow : is_flow (seen_position c.style.result.now.position) ≡ true = elim c.in-Static.is [
      | inl still ↦ ap (λ p. is_flow (seen_position p)) still
      | inr relative ↦ ap (λ p. is_flow (seen_position p)) relative
    ] in
    sym
    (passed_in_flow g.P.Styled.style g.P.Styled.kind c.args.tree.now.nodes (c.args.node.0) _ c.payload.ensures.value
    (sym (hidden_is g.P.Styled.style g.P.Styled.kind c.args.tree.now.nodes (c.args.node.0) _ c.payload.ensures.value) ∙ sym c.is_hidden.ensures.value ∙ c.if-is_hidden.false)
    (sym (ap (λ s. is_flow (s.position)) c.style.ensures.value) ∙ flow))

pub returns-in-Absolute-clause-value : goal.returns-in-Absolute-clause-value
returns-in-Absolute-clause-value g c =
    let out : is_flow (seen_position c.style.result.now.position) ≡ false = elim c.in-Absolute.is [
      | inl absolute ↦ ap (λ p. is_flow (seen_position p)) absolute
      | inr fixed ↦ ap (λ p. is_flow (seen_position p)) fixed
    ] in
    c.is_some.ensures ∙ ap is_some c.parent.ensures.value ∙ some_ids _
    ∙ sym
    (passed_out_of_flow g.P.Styled.style g.P.Styled.kind c.args.tree.now.nodes (c.args.node.0) _ c.payload.ensures.value
    (sym (hidden_is g.P.Styled.style g.P.Styled.kind c.args.tree.now.nodes (c.args.node.0) _ c.payload.ensures.value) ∙ sym c.is_hidden.ensures.value ∙ c.if-is_hidden.false)
    (sym (ap (λ s. is_flow (s.position)) c.style.ensures.value) ∙ out))
