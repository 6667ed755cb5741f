use Rattle.std.proofs.Common.{◌≡◌, true, false, refl, inl, inr, ap, sym, ◌∙◌}
use Rattle.std.proofs.lemmas.Bool.{false≢true}
use Rattle.std.specs.Prelude.{not}
use Rattle.layout_model.specs.Nodes.{is_static, is_positioned}
use Rattle.style_values.specs.Seen.{seen_position}
use Rattle.block_layout.specs.Trees.{layout_tree}
use Rattle.kept_layout.proofs.Held.{tree_nodes}
use Rattle.kept_layout.proofs.walk.brought_to.Goals as goal

pub returns-in-Static : goal.returns-in-Static
returns-in-Static g c =
    let at = layout_tree g.P.Styled.style g.P.Styled.kind c.args.tree.now.nodes in
    let unmoved : is_positioned (at (c.args.node.0)) ≡ false
    = ap (λ position. not (is_static position)) (sym (c.position.ensures.value at (tree_nodes g.P.Styled.style g.P.Styled.kind c.args.tree.now.nodes)) ∙ ap seen_position c.in-Static.is) in
    record {
      passed = λ no. refl;
      held = λ yes. absurd (false≢true (sym unmoved ∙ yes));
      fixed = refl;
    }

pub returns-in-Relative : goal.returns-in-Relative
returns-in-Relative g c =
    let at = layout_tree g.P.Styled.style g.P.Styled.kind c.args.tree.now.nodes in
    let other : is_static (seen_position c.position.result) ≡ false = elim c.in-Relative.is [
      | inl relative ↦ ap (λ position. is_static (seen_position position)) relative
      | inr out ↦ elim out [
        | inl absolute ↦ ap (λ position. is_static (seen_position position)) absolute
        | inr fixed ↦ ap (λ position. is_static (seen_position position)) fixed
      ]
    ] in
    let moved : is_positioned (at (c.args.node.0)) ≡ true
    = ap (λ position. not (is_static position)) (sym (c.position.ensures.value at (tree_nodes g.P.Styled.style g.P.Styled.kind c.args.tree.now.nodes))) ∙ ap not other in
    record {
      passed = λ no. absurd (false≢true (sym no ∙ moved));
      held = λ yes. c.inputs_held.ensures;
      fixed = refl;
    }
