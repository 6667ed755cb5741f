use Rattle.std.proofs.Common.{Some, option_map, ap, sym, ◌∙◌}
use Rattle.std.specs.Prelude.{unsigned_abs}
use mir.Syntax.{w64}
use mir.Val.{to_z}
use Rattle.layout_model.specs.Boxes.{computed, margin_height}
use Rattle.block_layout.specs.Filling.{height_of}
use Rattle.block_layout.specs.Seen.{seen_inputs}
use Rattle.block_layout.specs.Trees.{layout_tree}
use Rattle.block_layout.proofs.Nodes.{item_is}
use Rattle.block_layout.proofs.Parts.{unsigned_of}
use Rattle.block_layout.proofs.held.hold.Goals as goal

pub returns-in-Some-clause-value : goal.returns-in-Some-clause-value
returns-in-Some-clause-value g c =
    let item = (layout_tree g.P.Styled.style g.P.Styled.kind c.args.tree.now.nodes (c.args.node.0)).item in
    c.margin_units.ensures.value
    ∙ ap margin_height (c.compute_box-found.ensures.value
    ∙ ap (λ i. computed i (seen_inputs c.in-Some.own) (unsigned_abs (to_z w64 c.args.inside))) (sym (item_is g.P.Styled.style g.P.Styled.kind c.args.tree.now.nodes (c.args.node.0) _ c.payload.ensures.value))
    ∙ ap (computed item (seen_inputs c.in-Some.own)) (unsigned_of c.args.inside c.requires.inside))
    ∙ sym (ap (λ o. height_of (option_map (λ given. computed item given c.args.inside) (option_map seen_inputs o))) c.in-Some.is)

pub returns-in-Some-clause-own : goal.returns-in-Some-clause-own
returns-in-Some-clause-own g c low =
    let item = (layout_tree g.P.Styled.style g.P.Styled.kind c.args.tree.now.nodes (c.args.node.0)).item in
    c.put.ensures.own low
    ∙ ap Some (c.compute_box-found.ensures.value
    ∙ ap (λ i. computed i (seen_inputs c.in-Some.own) (unsigned_abs (to_z w64 c.args.inside))) (sym (item_is g.P.Styled.style g.P.Styled.kind c.args.tree.now.nodes (c.args.node.0) _ c.payload.ensures.value))
    ∙ ap (computed item (seen_inputs c.in-Some.own)) (unsigned_of c.args.inside c.requires.inside))
    ∙ sym (ap (λ o. option_map (λ given. computed item given c.args.inside) (option_map seen_inputs o)) c.in-Some.is)
